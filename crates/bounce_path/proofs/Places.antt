-- Shares of an edge say where a level meets the edge.
use Rattle.std.proofs.Common.{◌≡◌, refl, sym, ap, ◌∙◌, ℕ, ◌^◌, ◌≤◌, ℤ, pos, ◌-ℤ◌, ◌*ℤ◌, ◌≤ℤ◌, [], ◌∷◌, arith, lit<}
use Rattle.ring_solver.specs.Expression.{num, ◌⊟◌, ◌⊠◌}
use Rattle.ring_solver.specs.Ordered.{le, times}
use Rattle.ring_solver.proofs.Solver.{ring₄, ring₅}
use Rattle.ring_solver.proofs.Certificate.{le₂, le₆, moved}
use Rattle.rat_core.specs.Fraction.{ℚ, ◌÷◌, whole, ◌-ℚ◌, ◌*ℚ◌, ◌≤ℚ◌}
use Rattle.rat_core.proofs.Laws.{ℚ_ring, ℚ_ordered, over-mul, int-sub, int-mul}
use Rattle.rat_core.proofs.Order.{int_le, whole_le, whole_nonneg, cancel_le}
use Rattle.exp_sums.specs.FormalPoint.{FormalPoint}
use Rattle.std.specs.Prelude.{List}
use Rattle.bounce_path.specs.declared.crossing.Crossing.{Crossing}
use Rattle.bounce_path.specs.declared.shares.Shares.{Shares}
use Rattle.bounce_path.specs.Bounces.{share}
use Rattle.bounce_path.specs.Crossings.{AreShares}
use Rattle.bounce_path.specs.Level.{height_of, upper_at, lower_at}
use Rattle.bounce_path.proofs.Levels.{IsHeld}

-- a product of a whole number and a difference
scaled : (a : ℤ) (b c : ℤ) → (a *ℤ (b -ℤ c)) ÷ 1 ≡ (a ÷ 1) *ℚ (b ÷ 1 -ℚ c ÷ 1)
scaled a b c = int-mul a (b -ℤ c) ∙ ap (λ t. (a ÷ 1) *ℚ t) (int-sub b c)

-- both sides of the orders in units of 2^−40 and of 2^−60
module _ (a : ℕ) (h : ℤ) (U L : ℚ) where
  abbrev unit : ℚ
  unit = whole (2 ^ 60)

  abbrev parts : ℚ
  parts = whole (2 ^ 40)

  way_is : share a *ℚ (U -ℚ L) *ℚ unit *ℚ parts ≡ whole a *ℚ (U *ℚ unit -ℚ L *ℚ unit)
  way_is =
      ring₅ ℚ_ring (λ s u l k p. s ⊠ (u ⊟ l) ⊠ k ⊠ p) (λ s u l k p. (s ⊠ p) ⊠ (u ⊠ k ⊟ l ⊠ k)) refl (share a) U L unit parts
      ∙ ap (λ t. t *ℚ (U *ℚ unit -ℚ L *ℚ unit)) (over-mul (pos a) (2 ^ 40) (lit< tt))

  rise_is : (height_of h -ℚ L) *ℚ unit *ℚ parts ≡ parts *ℚ (h ÷ 1 -ℚ L *ℚ unit)
  rise_is =
      ring₄ ℚ_ring (λ s l k p. (s ⊟ l) ⊠ k ⊠ p) (λ s l k p. p ⊠ (s ⊠ k ⊟ l ⊠ k)) refl (height_of h) L unit parts
      ∙ ap (λ t. parts *ℚ (t -ℚ L *ℚ unit)) (over-mul h (2 ^ 60) (lit< tt))

  up_from : whole a *ℚ (U *ℚ unit -ℚ L *ℚ unit) ≤ℚ parts *ℚ (h ÷ 1 -ℚ L *ℚ unit) → share a *ℚ (U -ℚ L) ≤ℚ height_of h -ℚ L
  up_from below =
      cancel_le (2 ^ 60) (lit< tt) (share a *ℚ (U -ℚ L)) (height_of h -ℚ L)
      (cancel_le (2 ^ 40) (lit< tt) (share a *ℚ (U -ℚ L) *ℚ unit) ((height_of h -ℚ L) *ℚ unit) (moved ℚ_ordered (sym way_is) (sym rise_is) below))

  up_to : parts *ℚ (h ÷ 1 -ℚ L *ℚ unit) ≤ℚ whole a *ℚ (U *ℚ unit -ℚ L *ℚ unit) → height_of h -ℚ L ≤ℚ share a *ℚ (U -ℚ L)
  up_to above =
      cancel_le (2 ^ 60) (lit< tt) (height_of h -ℚ L) (share a *ℚ (U -ℚ L))
      (cancel_le (2 ^ 40) (lit< tt) ((height_of h -ℚ L) *ℚ unit) (share a *ℚ (U -ℚ L) *ℚ unit) (moved ℚ_ordered (sym rise_is) (sym way_is) above))

  -- what is left of the whole edge
  rest_nonneg : a ≤ 2 ^ 40 → whole 0 ≤ℚ parts -ℚ whole a
  rest_nonneg small = le₂ ℚ_ordered (λ p a. num 0) (λ p a. p ⊟ a) (λ p a. le a p ∷ []) refl parts (whole a) (whole_le a (2 ^ 40) small, tt)

  -- with both corners as high as they may be, and with both as low
  least_place : (hi lo : ℤ) → a ≤ 2 ^ 40 → U *ℚ unit ≤ℚ hi ÷ 1 → L *ℚ unit ≤ℚ lo ÷ 1 → (pos a *ℤ (hi -ℤ lo)) ≤ℤ (pos (2 ^ 40) *ℤ (h -ℤ lo))
      → share a *ℚ (U -ℚ L) ≤ℚ height_of h -ℚ L
  least_place hi lo small upper lower below =
      up_from
      (le₆ ℚ_ordered (λ a u l t b h. a ⊠ (u ⊟ l)) (λ a u l t b h. num (2 ^ 40) ⊠ (h ⊟ l))
      (λ a u l t b h. times a u t ∷ times (num (2 ^ 40) ⊟ a) l b ∷ le (a ⊠ (t ⊟ b)) (num (2 ^ 40) ⊠ (h ⊟ b)) ∷ []) refl
      (whole a) (U *ℚ unit) (L *ℚ unit) (hi ÷ 1) (lo ÷ 1) (h ÷ 1) (
        whole_nonneg a,
        upper,
        (
          rest_nonneg small,
          lower,
          (moved ℚ_ordered (scaled (pos a) hi lo) (scaled (pos (2 ^ 40)) h lo) (int_le (pos a *ℤ (hi -ℤ lo)) (pos (2 ^ 40) *ℤ (h -ℤ lo)) below), tt),
        ),
      ))

  greatest_place : (hi lo : ℤ) → a ≤ 2 ^ 40 → hi ÷ 1 ≤ℚ U *ℚ unit → lo ÷ 1 ≤ℚ L *ℚ unit → (pos (2 ^ 40) *ℤ (h -ℤ lo)) ≤ℤ (pos a *ℤ (hi -ℤ lo))
      → height_of h -ℚ L ≤ℚ share a *ℚ (U -ℚ L)
  greatest_place hi lo small upper lower above =
      up_to
      (le₆ ℚ_ordered (λ a u l t b h. num (2 ^ 40) ⊠ (h ⊟ l)) (λ a u l t b h. a ⊠ (u ⊟ l))
      (λ a u l t b h. times a t u ∷ times (num (2 ^ 40) ⊟ a) b l ∷ le (num (2 ^ 40) ⊠ (h ⊟ b)) (a ⊠ (t ⊟ b)) ∷ []) refl
      (whole a) (U *ℚ unit) (L *ℚ unit) (hi ÷ 1) (lo ÷ 1) (h ÷ 1) (
        whole_nonneg a,
        upper,
        (
          rest_nonneg small,
          lower,
          (moved ℚ_ordered (scaled (pos (2 ^ 40)) h lo) (scaled (pos a) hi lo) (int_le (pos (2 ^ 40) *ℤ (h -ℤ lo)) (pos a *ℤ (hi -ℤ lo)) above), tt),
        ),
      ))

-- the shares of a crossing, by the n-th approximation
pub meets_at : (v : FormalPoint) (w : List ℕ) (x y : ℚ) (n k : ℕ) (c : Crossing) (h : ℤ) (s : Shares) → IsHeld v w x y n k c → AreShares c h s
    → let way = upper_at v w x y n k -ℚ lower_at v w x y n k in
    let rise = height_of h -ℚ lower_at v w x y n k in
    (share s.least *ℚ way ≤ℚ rise) × (rise ≤ℚ share s.greatest *ℚ way)
meets_at v w x y n k c h s holds is =
    let U = upper_at v w x y n k in
    let L = lower_at v w x y n k in (
      least_place s.least h U L c.upper.hi c.lower.hi (omega (arith, is.in_order, is.below)) holds.upper.high holds.lower.high is.least,
      greatest_place s.greatest h U L c.upper.lo c.lower.lo (omega (arith, is.below)) holds.upper.low holds.lower.low is.greatest,
    )
