-- 1000 times a number in units of 2^−60, rounded to a whole number.
use Rattle.std.proofs.Common.{◌≡◌, refl, sym, ap, ◌∙◌, ◌^◌, ◌≤◌, [], ◌∷◌, ℤ, pos, ◌+ℤ◌, ◌*ℤ◌, ◌≤ℤ◌, ◌<ℤ◌, unsigned_abs, FitsSigned, to_z, of_z}
use Rattle.std.proofs.Common.{lit<, arith}
use Rattle.std.specs.Int.{w32, w128}
use Rattle.std.specs.Int.Signed.{shr_z}
use Rattle.std.proofs.lemmas.Int.{ints, to_z-of_z, fits_signed_from_abs}
use Rattle.ring_solver.specs.Expression.{num, opp, ◌⊞◌, ◌⊟◌, ◌⊠◌}
use Rattle.ring_solver.specs.Ordered.{le}
use Rattle.ring_solver.proofs.Certificate.{le₄, moved}
use Rattle.ring_solver.proofs.Solver.{ring₁, ring₃}
use Rattle.rat_core.specs.Fraction.{ℚ, ◌÷◌, whole, ◌+ℚ◌, ◌-ℚ◌, ◌*ℚ◌, neg_ℚ, ◌≤ℚ◌, abs}
use Rattle.rat_core.proofs.Laws.{ℚ_ring, ℚ_ordered, over-mul, int-add, int-mul}
use Rattle.rat_core.proofs.Order.{int_le, cancel_le, abs_le}
use Rattle.directed_fixed.proofs.Rounding.{floor_of_shift}
use Rattle.plane_points.specs.Spots.{in_units}

-- from 1/2 below 1000 times the number to 1/2 above
record IsNearest (z lo : ℤ) : Type 0 where
  pub low : (pos 1000 *ℤ lo) ≤ℤ (z *ℤ pos (2 ^ 60) +ℤ pos (2 ^ 59))
  pub high : (z *ℤ pos (2 ^ 60)) ≤ℤ (pos 1000 *ℤ lo +ℤ pos (2 ^ 59))

nearest : (lo : ℤ) → IsNearest (shr_z (pos 1000 *ℤ lo +ℤ pos (2 ^ 59)) (2 ^ 60)) lo
nearest lo =
    let h = floor_of_shift (pos 1000 *ℤ lo +ℤ pos (2 ^ 59)) (2 ^ 60) (omega arith) in
    from_floor (shr_z (pos 1000 *ℤ lo +ℤ pos (2 ^ 59)) (2 ^ 60)) lo h.at_most h.near
  where
    from_floor : (z lo : ℤ) → (z *ℤ pos (2 ^ 60)) ≤ℤ (pos 1000 *ℤ lo +ℤ pos (2 ^ 59))
        → (pos 1000 *ℤ lo +ℤ pos (2 ^ 59)) <ℤ (z *ℤ pos (2 ^ 60) +ℤ pos (2 ^ 60)) → IsNearest z lo
    from_floor z lo at_most near = record { low = omega (arith, ints, near); high = at_most }

half_in_units : (pos 1 ÷ 2) *ℚ whole (2 ^ 60) ≡ whole (2 ^ 59)
half_in_units =
    ap (λ k. (pos 1 ÷ 2) *ℚ k) (int-mul (pos 2) (pos (2 ^ 59)))
    ∙ ring₃ ℚ_ring (λ a b c. a ⊠ (b ⊠ c)) (λ a b c. a ⊠ b ⊠ c) refl (pos 1 ÷ 2) (whole 2) (whole (2 ^ 59))
    ∙ ap (λ k. k *ℚ whole (2 ^ 59)) (over-mul (pos 1) 2 (lit< tt))
    ∙ ring₁ ℚ_ring (λ c. num 1 ⊠ c) (λ c. c) refl (whole (2 ^ 59))

-- within 1/2 of 1000 times the number
nearest_within : (z lo : ℤ) → IsNearest z lo → abs (z ÷ 1 -ℚ whole 1000 *ℚ in_units lo) ≤ℚ pos 1 ÷ 2
nearest_within z lo h =
    abs_le (z ÷ 1 -ℚ whole 1000 *ℚ u) (pos 1 ÷ 2)
    (cancel_le (2 ^ 60) (lit< tt) (z ÷ 1 -ℚ whole 1000 *ℚ u) (pos 1 ÷ 2) (moved ℚ_ordered refl (sym half_in_units)
    (le₄ ℚ_ordered (λ z u k g. (z ⊟ num 1000 ⊠ u) ⊠ k) (λ z u k g. g) (λ z u k g. le (z ⊠ k) (num 1000 ⊠ (u ⊠ k) ⊞ g) ∷ []) refl
    (z ÷ 1) u K half (high, tt))))
    (cancel_le (2 ^ 60) (lit< tt) (neg_ℚ (z ÷ 1 -ℚ whole 1000 *ℚ u)) (pos 1 ÷ 2) (moved ℚ_ordered refl (sym half_in_units)
    (le₄ ℚ_ordered (λ z u k g. opp (z ⊟ num 1000 ⊠ u) ⊠ k) (λ z u k g. g) (λ z u k g. le (num 1000 ⊠ (u ⊠ k)) (z ⊠ k ⊞ g) ∷ []) refl
    (z ÷ 1) u K half (low, tt))))
  where
    u : ℚ
    u = in_units lo

    K : ℚ
    K = whole (2 ^ 60)

    half : ℚ
    half = whole (2 ^ 59)

    scaled : (pos 1000 *ℤ lo) ÷ 1 ≡ whole 1000 *ℚ (u *ℚ K)
    scaled = int-mul (pos 1000) lo ∙ ap (λ t. whole 1000 *ℚ t) (sym (over-mul lo (2 ^ 60) (lit< tt)))

    high : (z ÷ 1) *ℚ K ≤ℚ whole 1000 *ℚ (u *ℚ K) +ℚ half
    high =
        moved ℚ_ordered (int-mul z (pos (2 ^ 60))) (int-add (pos 1000 *ℤ lo) (pos (2 ^ 59)) ∙ ap (λ t. t +ℚ half) scaled)
        (int_le (z *ℤ pos (2 ^ 60)) (pos 1000 *ℤ lo +ℤ pos (2 ^ 59)) h.high)

    low : whole 1000 *ℚ (u *ℚ K) ≤ℚ (z ÷ 1) *ℚ K +ℚ half
    low =
        moved ℚ_ordered scaled (int-add (z *ℤ pos (2 ^ 60)) (pos (2 ^ 59)) ∙ ap (λ t. t +ℚ half) (int-mul z (pos (2 ^ 60))))
        (int_le (pos 1000 *ℤ lo) (z *ℤ pos (2 ^ 60) +ℤ pos (2 ^ 59)) h.low)

nearest_size : (z lo : ℤ) → unsigned_abs lo ≤ 2 ^ 70 → IsNearest z lo → unsigned_abs z ≤ 2 ^ 24
nearest_size z lo h near = sized z lo h near.low near.high
  where
    sized : (z lo : ℤ) → unsigned_abs lo ≤ 2 ^ 70 → (pos 1000 *ℤ lo) ≤ℤ (z *ℤ pos (2 ^ 60) +ℤ pos (2 ^ 59))
        → (z *ℤ pos (2 ^ 60)) ≤ℤ (pos 1000 *ℤ lo +ℤ pos (2 ^ 59)) → unsigned_abs z ≤ 2 ^ 24
    sized z lo h k l = omega (arith, ints)

-- the rounded number as the machine computes it
abbrev pub kept : ℤ → ℤ
kept z = to_z w128 (of_z w128 z)

pub kept_is : (z : ℤ) → unsigned_abs z ≤ 2 ^ 70 → kept z ≡ z
kept_is z small = to_z-of_z w128 z (fits_signed_from_abs w128 z (omega (arith, small)))

abbrev pub kept_rounded : ℤ → ℤ
kept_rounded lo = to_z w32 (of_z w32 (kept (shr_z (kept (kept (pos 1000 *ℤ kept lo) +ℤ pos 0x800000000000000)) 0x1000000000000000)))

-- what is said of it
pub record IsRoundedTo (lo z : ℤ) : Type 0 where
  pub near : abs (z ÷ 1 -ℚ whole 1000 *ℚ in_units lo) ≤ℚ pos 1 ÷ 2
  pub size : unsigned_abs z ≤ 2 ^ 24

pub rounded_computed : (lo : ℤ) → unsigned_abs lo ≤ 2 ^ 70 → IsRoundedTo lo (kept_rounded lo)
rounded_computed lo small =
    let near = nearest lo in
    let z = shr_z (pos 1000 *ℤ lo +ℤ pos (2 ^ 59)) (2 ^ 60) in
    let z_size : unsigned_abs z ≤ 2 ^ 24 = nearest_size z lo small near in
    let lo_fits : FitsSigned w128 lo = fits_signed_from_abs w128 lo (omega (arith, small)) in
    let product : unsigned_abs (pos 1000 *ℤ lo) ≤ 2 ^ 80 = thousand lo small in
    let product_fits : FitsSigned w128 (pos 1000 *ℤ lo) = fits_signed_from_abs w128 (pos 1000 *ℤ lo) (omega arith) in
    let sum : unsigned_abs (pos 1000 *ℤ lo +ℤ pos (2 ^ 59)) ≤ 2 ^ 81 = more (pos 1000 *ℤ lo) product in
    let sum_fits : FitsSigned w128 (pos 1000 *ℤ lo +ℤ pos (2 ^ 59)) = fits_signed_from_abs w128 (pos 1000 *ℤ lo +ℤ pos (2 ^ 59)) (omega arith) in
    let z_fits : FitsSigned w128 z = fits_signed_from_abs w128 z (omega arith) in
    let z_fits_32 : FitsSigned w32 z = fits_signed_from_abs w32 z (omega arith) in
    let plain : IsRoundedTo lo z = record { near = nearest_within z lo near; size = z_size } in
    simp to_z-of_z plain
  where
    thousand : (z : ℤ) → unsigned_abs z ≤ 2 ^ 70 → unsigned_abs (pos 1000 *ℤ z) ≤ 2 ^ 80
    thousand z h = omega (arith, ints)

    more : (z : ℤ) → unsigned_abs z ≤ 2 ^ 80 → unsigned_abs (z +ℤ pos (2 ^ 59)) ≤ 2 ^ 81
    more z h = omega (arith, ints)
