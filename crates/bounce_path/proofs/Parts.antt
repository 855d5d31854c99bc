-- Shares rounded down and up lie inside the edge and near each other.
use Rattle.std.proofs.Common.{◌≡◌, refl, sym, ap₂, subst₂, mul-pos, unsigned_abs, FitsSigned, ℕ, ◌+◌, ◌-◌, ◌*◌}
use Rattle.std.proofs.Common.{◌^◌, ◌<◌, ◌≤◌, ℤ, pos, ◌+ℤ◌, ◌-ℤ◌, ◌*ℤ◌, ◌≤ℤ◌, [], ◌∷◌, arith}
use Rattle.std.proofs.Math.Nat.{mul-le-mul_right, lt_of_not-le}
use Rattle.std.proofs.lemmas.Int.{ints}
use Rattle.sine_fixed.proofs.Turning.{fits_128}
use Rattle.std.specs.Int.{w128}
use Rattle.ring_solver.specs.Expression.{num, ◌⊞◌, ◌⊠◌}
use Rattle.ring_solver.specs.Ordered.{times}
use Rattle.ring_solver.proofs.Certificate.{le₄, le₆}
use Rattle.ring_solver.proofs.Whole.{ℤ_ordered, pos_le, *ℤ_mono_back}
use Rattle.bounce_path.specs.declared.crossing.Crossing.{Crossing}
use Rattle.bounce_path.specs.Crossings.{IsNearCrossing, IsWellInside, IsRoundedDown, IsRoundedUp, AreShares, half_room}

-- what the shares are made of: the level is at least p above the lower corner and at least q below the upper one, and the two corners may be d lower and
-- e higher
module _ (p q d e : ℤ) (p_least : pos 0 ≤ℤ p) (q_least : pos 0 ≤ℤ q) (d_least : pos 0 ≤ℤ d) (e_least : pos 0 ≤ℤ e) where
  -- the least share is at most the greatest
  pub shares_cross : (p *ℤ (p +ℤ d +ℤ q)) ≤ℤ ((p +ℤ d) *ℤ (p +ℤ q +ℤ e))
  shares_cross =
      le₄ ℤ_ordered (λ p q d e. p ⊠ (p ⊞ d ⊞ q)) (λ p q d e. (p ⊞ d) ⊠ (p ⊞ q ⊞ e))
      (λ p q d e. times p (num 0) e ∷ times d (num 0) q ∷ times d (num 0) e ∷ []) refl p q d e (p_least, e_least, (d_least, q_least, (d_least, e_least, tt)))

  -- and by little
  pub shares_near : d ≤ℤ pos (2 ^ 23) → e ≤ℤ pos (2 ^ 23)
      → ((p +ℤ d) *ℤ (p +ℤ q +ℤ e)) ≤ℤ (p *ℤ (p +ℤ d +ℤ q) +ℤ pos (2 ^ 23) *ℤ (p +ℤ d +ℤ q))
  shares_near d_most e_most =
      le₄ ℤ_ordered (λ p q d e. (p ⊞ d) ⊠ (p ⊞ q ⊞ e)) (λ p q d e. p ⊠ (p ⊞ d ⊞ q) ⊞ num (2 ^ 23) ⊠ (p ⊞ d ⊞ q))
      (λ p q d e. times p e (num (2 ^ 23)) ∷ times d e (num (2 ^ 23)) ∷ times q d (num (2 ^ 23)) ∷ []) refl p q d e
      (p_least, e_most, (d_least, e_most, (q_least, d_most, tt)))

-- a is the share of r in s rounded down, and b that of u in t rounded up
module _ (r s u t a b : ℕ) (down : IsRoundedDown r s a) (up : IsRoundedUp u t b) where
  above : s ≤ 2 ^ 78 → 2 ^ 39 - 2 ^ 23 ≤ r → 0 < a
  above small far = lt_of_not-le (λ (none : a ≤ 0). let product : a * s ≤ 0 * s = mul-le-mul_right s none in omega (arith, product, down.near, small, far))

  below : t ≤ 2 ^ 78 → u + (2 ^ 39 - 2 ^ 23) ≤ t → b < 2 ^ 40
  below small far =
      lt_of_not-le (λ (all : 2 ^ 40 ≤ b). let product : 2 ^ 40 * t ≤ b * t = mul-le-mul_right t all in omega (arith, product, up.near, small, far))

  in_order : 0 < s * t → (pos r *ℤ pos t) ≤ℤ (pos u *ℤ pos s) → a ≤ b
  in_order some cross =
      from_pos a b
      (*ℤ_mono_back (pos a) (pos b) (s * t) some
      (le₆ ℤ_ordered (λ a b r u s t. a ⊠ (s ⊠ t)) (λ a b r u s t. b ⊠ (s ⊠ t))
      (λ a b r u s t. times t (a ⊠ s) (num (2 ^ 40) ⊠ r) ∷ times (num (2 ^ 40)) (r ⊠ t) (u ⊠ s) ∷ times s (num (2 ^ 40) ⊠ u) (b ⊠ t) ∷ []) refl
      (pos a) (pos b) (pos r) (pos u) (pos s) (pos t)
      (nonneg t, pos_le (a * s) (2 ^ 40 * r) down.at_most, (nonneg (2 ^ 40), cross, (nonneg s, pos_le (2 ^ 40 * u) (b * t) up.at_least, tt)))))
    where
      nonneg : (n : ℕ) → pos 0 ≤ℤ pos n
      nonneg n = omega (arith, ints)

      from_pos : (m n : ℕ) → pos m ≤ℤ pos n → m ≤ n
      from_pos m n h = omega (arith, ints, h)

  -- by how much the greatest exceeds the least, before the last division
  narrow_times : 0 < t → (pos u *ℤ pos s) ≤ℤ (pos r *ℤ pos t +ℤ pos (2 ^ 23) *ℤ pos t) → b * s ≤ a * s + (2 ^ 63 + 2 * s)
  narrow_times some near =
      from_pos
      (*ℤ_mono_back (pos (b * s)) (pos (a * s + (2 ^ 63 + 2 * s))) t some
      (le₆ ℤ_ordered (λ a b r u s t. (b ⊠ s) ⊠ t) (λ a b r u s t. (a ⊠ s ⊞ (num (2 ^ 63) ⊞ num 2 ⊠ s)) ⊠ t)
      (λ a b r u s t.
      times s (b ⊠ t) (num (2 ^ 40) ⊠ u ⊞ t) ∷ times t (num (2 ^ 40) ⊠ r) (a ⊠ s ⊞ s) ∷ times (num (2 ^ 40)) (u ⊠ s) (r ⊠ t ⊞ num (2 ^ 23) ⊠ t)
      ∷ []) refl
      (pos a) (pos b) (pos r) (pos u) (pos s) (pos t) (
        nonneg s,
        pos_le (b * t) (2 ^ 40 * u + t) (omega (arith, up.near)),
        (nonneg t, pos_le (2 ^ 40 * r) (a * s + s) (omega (arith, down.near)), (nonneg (2 ^ 40), near, tt)),
      )))
    where
      nonneg : (n : ℕ) → pos 0 ≤ℤ pos n
      nonneg n = omega (arith, ints)

      from_pos : pos (b * s) ≤ℤ pos (a * s + (2 ^ 63 + 2 * s)) → b * s ≤ a * s + (2 ^ 63 + 2 * s)
      from_pos h = omega (arith, ints, h)

  narrow : 0 < t → 2 ^ 40 - 2 ^ 24 ≤ s → (pos u *ℤ pos s) ≤ℤ (pos r *ℤ pos t +ℤ pos (2 ^ 23) *ℤ pos t) → b ≤ a + 2 ^ 24
  narrow some far near =
      let times_s = narrow_times some near in
      let strict : b < a + 2 ^ 24 + 1 = lt_of_not-le (λ (wide : a + 2 ^ 24 + 1 ≤ b).
      let product : (a + 2 ^ 24 + 1) * s ≤ b * s = mul-le-mul_right s wide in omega (arith, product, times_s, far)) in
      omega (arith, strict)

-- ---- what the machine computes

pub record FitDifferences (level lower upper : ℤ) : Type 0 where
  pub rise : FitsSigned w128 (level -ℤ lower)
  pub way : FitsSigned w128 (upper -ℤ lower)

-- where the level lies between two small numbers
pub differences_fit : (level lower upper m u : ℤ) → unsigned_abs lower ≤ 2 ^ 76 → unsigned_abs upper ≤ 2 ^ 76 → unsigned_abs m ≤ 2 ^ 76
    → unsigned_abs u ≤ 2 ^ 76 → (m +ℤ pos half_room) ≤ℤ level → (level +ℤ pos half_room) ≤ℤ u → FitDifferences level lower upper
differences_fit level lower upper m u sl su sm st low high = record {
  rise = fits_128 (level -ℤ lower) (omega (arith, ints, sl, sm, st, low, high));
  way = fits_128 (upper -ℤ lower) (omega (arith, ints, sl, su));
}

-- ---- crossings

abs_of : (x y : ℤ) → y ≤ℤ x → pos (unsigned_abs (x -ℤ y)) ≡ x -ℤ y
abs_of x y h = omega (arith, ints, h)

-- the ways of a crossing, where the level h is well inside: l and m are the ends of the lower corner, and u and v those of the upper one
record AreWays (l m u v h : ℤ) (r s t w : ℕ) : Type 0 where
  pub r_is : pos r ≡ h -ℤ m
  pub s_is : pos s ≡ (h -ℤ m) +ℤ (u -ℤ h) +ℤ (v -ℤ u)
  pub w_is : pos w ≡ (h -ℤ m) +ℤ (m -ℤ l)
  pub t_is : pos t ≡ (h -ℤ m) +ℤ (m -ℤ l) +ℤ (u -ℤ h)
  pub r_far : half_room ≤ r
  pub s_far : 2 ^ 40 - 2 ^ 24 ≤ s
  pub s_small : s ≤ 2 ^ 78
  pub t_small : t ≤ 2 ^ 78
  pub w_far : w + half_room ≤ t

ways : (l m u v h : ℤ) → l ≤ℤ m → u ≤ℤ v → (m +ℤ pos half_room) ≤ℤ h → (h +ℤ pos half_room) ≤ℤ u → unsigned_abs l ≤ 2 ^ 76 → unsigned_abs m ≤ 2 ^ 76
    → unsigned_abs u ≤ 2 ^ 76 → unsigned_abs v ≤ 2 ^ 76
    → AreWays l m u v h (unsigned_abs (h -ℤ m)) (unsigned_abs (v -ℤ m)) (unsigned_abs (u -ℤ l)) (unsigned_abs (h -ℤ l))
ways l m u v h lm uv low high sl sm su sv = record {
  r_is = omega (arith, ints, low);
  s_is = omega (arith, ints, low, high, uv);
  w_is = omega (arith, ints, lm, low);
  t_is = omega (arith, ints, lm, low, high);
  r_far = omega (arith, ints, low);
  s_far = omega (arith, ints, low, high, uv);
  s_small = omega (arith, ints, sm, sv);
  t_small = omega (arith, ints, sl, su);
  w_far = omega (arith, ints, lm, low, high);
}

pub shares_are : (c : Crossing) (h : ℤ) (a b : ℕ) → IsNearCrossing c → IsWellInside c h
    → IsRoundedDown (unsigned_abs (h -ℤ c.lower.hi)) (unsigned_abs (c.upper.hi -ℤ c.lower.hi)) a
    → IsRoundedUp (unsigned_abs (h -ℤ c.lower.lo)) (unsigned_abs (c.upper.lo -ℤ c.lower.lo)) b → AreShares c h (record { least = a; greatest = b })
shares_are c h a b near inside down up =
    let l = c.lower.lo in
    let m = c.lower.hi in
    let u = c.upper.lo in
    let v = c.upper.hi in
    let r = unsigned_abs (h -ℤ m) in
    let s = unsigned_abs (v -ℤ m) in
    let t = unsigned_abs (u -ℤ l) in
    let w = unsigned_abs (h -ℤ l) in
    let is = ways l m u v h near.lower.in_order near.upper.in_order inside.low inside.high near.lower.small.low near.lower.small.high near.upper.small.low
    near.upper.small.high in
    let nonneg = signs l m u v h near.lower.in_order near.upper.in_order inside.low inside.high in
    let cross : (pos r *ℤ pos t) ≤ℤ (pos w *ℤ pos s) =
    subst₂ (λ x y. x ≤ℤ y) (sym (ap₂ ◌*ℤ◌ is.r_is is.t_is)) (sym (ap₂ ◌*ℤ◌ is.w_is is.s_is))
    (shares_cross (h -ℤ m) (u -ℤ h) (m -ℤ l) (v -ℤ u) nonneg.0 nonneg.1 nonneg.2 nonneg.3) in
    let close : (pos w *ℤ pos s) ≤ℤ (pos r *ℤ pos t +ℤ pos (2 ^ 23) *ℤ pos t) =
    subst₂ (λ x y. x ≤ℤ y) (sym (ap₂ ◌*ℤ◌ is.w_is is.s_is)) (sym (ap₂ (λ x y. x *ℤ y +ℤ pos (2 ^ 23) *ℤ y) is.r_is is.t_is))
    (shares_near (h -ℤ m) (u -ℤ h) (m -ℤ l) (v -ℤ u) nonneg.0 nonneg.1 nonneg.2 nonneg.3 (width l m near.lower.narrow) (width u v near.upper.narrow)) in
    let s_some : 0 < s = omega (arith, is.s_far) in
    let t_some : 0 < t = omega (arith, is.w_far) in
    record {
      least = subst₂ (λ x y. (pos a *ℤ x) ≤ℤ (pos (2 ^ 40) *ℤ y)) (abs_of v m (ordered l m u v h near.upper.in_order inside.low inside.high).0)
          is.r_is (pos_le (a * s) (2 ^ 40 * r) down.at_most);
      greatest = subst₂ (λ x y. (pos (2 ^ 40) *ℤ x) ≤ℤ (pos b *ℤ y)) (abs_of h l (ordered_low l m u h near.lower.in_order inside.low inside.high).0)
          (abs_of u l (ordered_low l m u h near.lower.in_order inside.low inside.high).1) (pos_le (2 ^ 40 * w) (b * t) up.at_least);
      above = above r s w t a b down up is.s_small is.r_far;
      in_order = in_order r s w t a b down up (mul-pos s_some t_some) cross;
      below = below r s w t a b down up is.t_small is.w_far;
      narrow = narrow r s w t a b down up t_some is.s_far close;
    }
  where
    signs : (l m u v h : ℤ) → l ≤ℤ m → u ≤ℤ v → (m +ℤ pos half_room) ≤ℤ h → (h +ℤ pos half_room) ≤ℤ u
        → (pos 0 ≤ℤ (h -ℤ m)) × (pos 0 ≤ℤ (u -ℤ h)) × (pos 0 ≤ℤ (m -ℤ l)) × (pos 0 ≤ℤ (v -ℤ u))
    signs l m u v h lm uv low high = (omega (arith, ints, low), omega (arith, ints, high), omega (arith, ints, lm), omega (arith, ints, uv))

    ordered : (l m u v h : ℤ) → u ≤ℤ v → (m +ℤ pos half_room) ≤ℤ h → (h +ℤ pos half_room) ≤ℤ u → (m ≤ℤ v) × (m ≤ℤ h)
    ordered l m u v h uv low high = (omega (arith, ints, uv, low, high), omega (arith, ints, low))

    ordered_low : (l m u h : ℤ) → l ≤ℤ m → (m +ℤ pos half_room) ≤ℤ h → (h +ℤ pos half_room) ≤ℤ u → (l ≤ℤ h) × (l ≤ℤ u)
    ordered_low l m u h lm low high = (omega (arith, ints, lm, low), omega (arith, ints, lm, low, high))

    width : (x y : ℤ) → y ≤ℤ (x +ℤ pos (2 ^ 23)) → (y -ℤ x) ≤ℤ pos (2 ^ 23)
    width x y h = omega (arith, ints, h)
