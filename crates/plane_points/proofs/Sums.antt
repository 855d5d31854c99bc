-- The coordinates of a sum, term by term.
use Rattle.std.proofs.Common.{◌≡◌, refl, sym, ap, ◌∙◌, subst, ◌+◌, ◌*◌, ◌^◌, ◌<◌, ◌≤◌, ℕ, List, [], ◌∷◌, take, length, get_or}
use Rattle.std.proofs.Common.{ℤ, pos, ◌+ℤ◌, ◌-ℤ◌, ◌*ℤ◌, ◌≤ℤ◌, unsigned_abs, FitsSigned, lit<, arith}
use Rattle.std.specs.Int.{w64, w128}
use Rattle.std.proofs.lemmas.Int.{ints, fits_signed_from_abs}
use Rattle.std.proofs.lemmas.List.{take_more, take_all}
use Rattle.std.proofs.lemmas.List.Sums.{sum_by_more_le}
use Rattle.ring_solver.specs.Expression.{num, opp, ◌⊞◌, ◌⊟◌, ◌⊠◌}
use Rattle.ring_solver.specs.Ordered.{le}
use Rattle.ring_solver.proofs.Solver.{ring₁, ring₃}
use Rattle.ring_solver.proofs.Certificate.{le₃, moved}
use Rattle.rat_core.specs.Fraction.{ℚ, ◌÷◌, whole, ◌+ℚ◌, ◌-ℚ◌, ◌*ℚ◌, neg_ℚ, ◌≤ℚ◌, abs}
use Rattle.rat_core.specs.Written.{value}
use Rattle.rat_core.proofs.Laws.{ℚ_ring, ℚ_ordered, over-mul, int-add, int-sub, int-mul}
use Rattle.rat_core.proofs.Order.{abs_le, cancel_le}
use Rattle.exp_sums.specs.declared.direction.Dir.{Dir}
use Rattle.exp_sums.specs.declared.terms.Term.{Term}
use Rattle.exp_sums.specs.FormalPoint.{FormalPoint, terms, monomial}
use Rattle.exp_sums.specs.Limits.{terms_weight, weight}
use Rattle.exp_sums.proofs.Weights.{terms_weight-cons, terms_weight-append, weight-monomial}
use Rattle.trig_meaning.specs.Turn.{sine_of_turn}
use Rattle.trig_meaning.specs.Value.{turn_of, first_coordinate, second_coordinate}
use Rattle.trig_meaning.proofs.FromSomeOnLaws.{always, onward}
use Rattle.trig_meaning.proofs.Coordinates.{first_coordinates_add_up_lem}
use Rattle.trig_meaning.proofs.Values.{values_add_up_lem}
use Rattle.directed_fixed.specs.Ends.{Encloses}
use Rattle.directed_fixed.proofs.Rounding.{product_size}
use Rattle.sine_fixed.proofs.Turning.{fits_128}
use Rattle.sine_fixed.proofs.Weighing.{IsSumNear, around, from_low, wider, nothing_around, one_more}
use Rattle.plane_points.specs.declared.spot.Spot.{Spot}
use Rattle.plane_points.specs.Kept.{IsLowOf, IsUnitSpot, IsSmallSpot}
use Rattle.plane_points.specs.Spots.{TriangleAngles, in_units, IsNearCoordinate, IsSpotOf}

-- the coordinates of a direction at a triangle, by the n-th approximation
abbrev pub first_of : TriangleAngles → ℕ → Dir → ℚ
first_of at n d = sine_of_turn n (turn_of d (value at.0) (value at.1) +ℚ pos 1 ÷ 2)

abbrev pub second_of : TriangleAngles → ℕ → Dir → ℚ
second_of at n d = sine_of_turn n (turn_of d (value at.0) (value at.1))

-- the sums over the first i terms lie around the numbers, which are small
pub record IsSumOf (at : TriangleAngles) (ts : List Term) (i : ℕ) (s : Spot) : Type 0 where
  pub first : IsSumNear 60 (first_of at) s.x (take i ts)
  pub second : IsSumNear 60 (second_of at) s.y (take i ts)
  pub first_small : unsigned_abs s.x ≤ 2 ^ 62 * terms_weight (take i ts)
  pub second_small : unsigned_abs s.y ≤ 2 ^ 62 * terms_weight (take i ts)

-- a sum and one more product fit the machine's numbers
pub record PlusFits (total c other : ℤ) : Type 0 where
  pub total_fits : FitsSigned w128 total
  pub factor_fits : FitsSigned w128 c
  pub other_fits : FitsSigned w128 other
  pub product_fits : FitsSigned w128 (c *ℤ other)
  pub sum_fits : FitsSigned w128 (total +ℤ c *ℤ other)

pub plus_fits : (total c other : ℤ) → unsigned_abs total ≤ 2 ^ 93 → unsigned_abs c ≤ 2 ^ 31 → unsigned_abs other ≤ 2 ^ 62 → PlusFits total c other
plus_fits total c other h k l =
    let product : unsigned_abs (c *ℤ other) ≤ 2 ^ 31 * 2 ^ 62 = product_size c other (2 ^ 31) (2 ^ 62) k l in
    record {
      total_fits = fits_128 total (omega (arith, h));
      factor_fits = fits_128 c (omega (arith, k));
      other_fits = fits_128 other (omega (arith, l));
      product_fits = fits_128 (c *ℤ other) (omega (arith, product));
      sum_fits = fits_128 (total +ℤ c *ℤ other) (both total (c *ℤ other) h product);
    }
  where
    both : (p q : ℤ) → unsigned_abs p ≤ 2 ^ 93 → unsigned_abs q ≤ 2 ^ 31 * 2 ^ 62 → unsigned_abs (p +ℤ q) ≤ 2 ^ 120
    both p q h k = omega (arith, ints, h, k)

-- the sizes of a sum and of one more product
sum_small : (total product : ℤ) (before c after : ℕ) → unsigned_abs total ≤ 2 ^ 62 * before → unsigned_abs product ≤ c * 2 ^ 62 → before + c ≤ after
    → unsigned_abs (total +ℤ product) ≤ 2 ^ 62 * after
sum_small total product before c after h k more = omega (arith, ints, h, k, more)

first_weight : (ts : List Term) (i : ℕ) (e : Term) → i < length ts
    → terms_weight (take i ts) + unsigned_abs (get_or ts i e).c ≤ terms_weight (take (i + 1) ts)
first_weight ts i e below = subst (λ us. terms_weight (take i ts) + unsigned_abs (get_or ts i e).c ≤ terms_weight us) (sym (take_more ts i e below))
    (omega (arith, terms_weight-append (take i ts) (get_or ts i e ∷ []), terms_weight-cons (get_or ts i e) []))

-- one more term
module _ (at : TriangleAngles) (ts : List Term) (i : ℕ) (e : Term) (below : i < length ts) (light : terms_weight ts ≤ 2 ^ 31) (s : Spot)
    (so_far : IsSumOf at ts i s) where
  -- the coefficient as the machine reads it
  pub factor_read : FitsSigned w64 (get_or ts i e).c
  factor_read =
      let part = sum_by_more_le (λ (t : Term). unsigned_abs t.c) ts i e below in
      fits_signed_from_abs w64 (get_or ts i e).c (omega (arith, part, light))

  pub next_sum : (unit next : Spot) → IsUnitSpot at (get_or ts i e).dir unit → IsSmallSpot (2 ^ 62) unit
      → next.x ≡ s.x +ℤ (get_or ts i e).c *ℤ unit.x → next.y ≡ s.y +ℤ (get_or ts i e).c *ℤ unit.y → IsSumOf at ts (i + 1) next
  next_sum unit next is small x_is y_is = record {
    first = subst (λ z. IsSumNear 60 (first_of at) z (take (i + 1) ts)) (sym x_is)
        (one_more 60 (first_of at) ts i e s.x unit.x below so_far.first is.first);
    second = subst (λ z. IsSumNear 60 (second_of at) z (take (i + 1) ts)) (sym y_is)
        (one_more 60 (second_of at) ts i e s.y unit.y below so_far.second is.second);
    first_small = larger s.x unit.x next.x so_far.first_small small.x x_is;
    second_small = larger s.y unit.y next.y so_far.second_small small.y y_is;
  }
    where
      larger : (total low z : ℤ) → unsigned_abs total ≤ 2 ^ 62 * terms_weight (take i ts) → unsigned_abs low ≤ 2 ^ 62 → z ≡ total +ℤ (get_or ts i e).c *ℤ low
          → unsigned_abs z ≤ 2 ^ 62 * terms_weight (take (i + 1) ts)
      larger total low z h k z_is =
          let c = (get_or ts i e).c in
          let product : unsigned_abs (c *ℤ low) ≤ unsigned_abs c * 2 ^ 62 = product_size c low (unsigned_abs c) (2 ^ 62) (omega arith) k in
          subst (λ y. unsigned_abs y ≤ 2 ^ 62 * terms_weight (take (i + 1) ts)) (sym z_is)
          (sum_small total (c *ℤ low) (terms_weight (take i ts)) (unsigned_abs c) (terms_weight (take (i + 1) ts)) h product (first_weight ts i e below))

-- ---- the whole sum

eight_bits : (pos 1 ÷ 2 ^ 52) *ℚ whole (2 ^ 60) ≡ whole 256
eight_bits =
    ap (λ k. (pos 1 ÷ 2 ^ 52) *ℚ k) (int-mul (pos (2 ^ 52)) (pos 256))
    ∙ ring₃ ℚ_ring (λ a b c. a ⊠ (b ⊠ c)) (λ a b c. a ⊠ b ⊠ c) refl (pos 1 ÷ 2 ^ 52) (whole (2 ^ 52)) (whole 256)
    ∙ ap (λ k. k *ℚ whole 256) (over-mul (pos 1) (2 ^ 52) (lit< tt))
    ∙ ring₁ ℚ_ring (λ c. num 1 ⊠ c) (λ c. c) refl (whole 256)

-- what lies within 256 units for each unit of weight is within 2^−52 for each
within : (z : ℤ) (w : ℕ) (v : ℚ) → Encloses 60 (around z (256 * w)) v → abs (in_units z -ℚ v) ≤ℚ whole w *ℚ (pos 1 ÷ 2 ^ 52)
within z w v h =
    abs_le (in_units z -ℚ v) bound
    (cancel_le (2 ^ 60) (lit< tt) (in_units z -ℚ v) bound (moved ℚ_ordered (sym at_least) (sym room)
    (le₃ ℚ_ordered (λ Z U W. Z ⊟ U) (λ Z U W. W ⊠ num 256) (λ Z U W. le (Z ⊟ num 256 ⊠ W) U ∷ []) refl Z U W
    (moved ℚ_ordered (int-sub z (pos (256 * w)) ∙ ap (λ k. Z -ℚ k) (int-mul (pos 256) (pos w))) refl h.low, tt))))
    (cancel_le (2 ^ 60) (lit< tt) (neg_ℚ (in_units z -ℚ v)) bound (moved ℚ_ordered (sym at_most) (sym room)
    (le₃ ℚ_ordered (λ Z U W. U ⊟ Z) (λ Z U W. W ⊠ num 256) (λ Z U W. le U (Z ⊞ num 256 ⊠ W) ∷ []) refl Z U W
    (moved ℚ_ordered refl (int-add z (pos (256 * w)) ∙ ap (λ k. Z +ℚ k) (int-mul (pos 256) (pos w))) h.high, tt))))
  where
    K : ℚ
    K = whole (2 ^ 60)

    Z : ℚ
    Z = z ÷ 1

    U : ℚ
    U = v *ℚ K

    W : ℚ
    W = whole w

    bound : ℚ
    bound = W *ℚ (pos 1 ÷ 2 ^ 52)

    at_least : (in_units z -ℚ v) *ℚ K ≡ Z -ℚ U
    at_least = ring₃ ℚ_ring (λ q v k. (q ⊟ v) ⊠ k) (λ q v k. q ⊠ k ⊟ v ⊠ k) refl (in_units z) v K ∙ ap (λ t. t -ℚ U) (over-mul z (2 ^ 60) (lit< tt))

    at_most : neg_ℚ (in_units z -ℚ v) *ℚ K ≡ U -ℚ Z
    at_most = ring₃ ℚ_ring (λ q v k. opp (q ⊟ v) ⊠ k) (λ q v k. v ⊠ k ⊟ q ⊠ k) refl (in_units z) v K ∙ ap (λ t. U -ℚ t) (over-mul z (2 ^ 60) (lit< tt))

    room : bound *ℚ K ≡ W *ℚ whole 256
    room = ring₃ ℚ_ring (λ w e k. w ⊠ e ⊠ k) (λ w e k. w ⊠ (e ⊠ k)) refl W (pos 1 ÷ 2 ^ 52) K ∙ ap (λ t. W *ℚ t) eight_bits

pub sum_is_near : (at : TriangleAngles) (p : FormalPoint) (ts : List Term) (i : ℕ) (s : Spot) → ts ≡ terms p → IsSumOf at ts i s → length ts ≤ i
    → IsSpotOf at p s
sum_is_near at p ts i s is sum end =
    let all : take i ts ≡ terms p = take_all i ts end ∙ is in
    record {
      first = onward (λ n h. within s.x (weight p) (first_coordinate n p (value at.0) (value at.1)) h)
          (subst (IsSumNear 60 (first_of at) s.x) all sum.first);
      second = onward (λ n h. within s.y (weight p) (second_coordinate n p (value at.0) (value at.1)) h)
          (subst (IsSumNear 60 (second_of at) s.y) all sum.second);
    }

-- no term
pub no_term : (at : TriangleAngles) (ts : List Term) → IsSumOf at ts 0 (record { x = pos 0; y = pos 0 })
no_term at ts = record {
  first = always (λ n. nothing_around 60);
  second = always (λ n. nothing_around 60);
  first_small = omega arith;
  second_small = omega arith;
}

-- ---- a single direction

-- what lies from a number to 256 more is within 2^−52 of it
low_is_near : (z : ℤ) (value coordinate : ℕ → ℚ) → ((n : ℕ) → coordinate n ≡ (pos 1 ÷ 1) *ℚ value n) → IsLowOf z value → IsNearCoordinate 1 z coordinate
low_is_near z value coordinate same low =
    onward
    (λ n h.
    subst (λ t. abs (in_units z -ℚ t) ≤ℚ whole 1 *ℚ (pos 1 ÷ 2 ^ 52)) (ring₁ ℚ_ring (λ v. v) (λ v. num 1 ⊠ v) refl (value n) ∙ sym (same n))
    (within z 1 (value n) (wider 60 (from_low z) (around z 256) (value n) (lower z) (same_at_most (z +ℤ pos 256)) h))) low
  where
    lower : (z : ℤ) → (z -ℤ pos 256) ≤ℤ z
    lower z = omega (arith, ints)

    same_at_most : (z : ℤ) → z ≤ℤ z
    same_at_most z = omega (arith, ints)

pub unit_is_spot : (at : TriangleAngles) (d : Dir) (s : Spot) → IsUnitSpot at d s → IsSpotOf at (monomial (pos 1) d) s
unit_is_spot at d s is =
    let p = monomial (pos 1) d in
    let x = value at.0 in
    let y = value at.1 in
    let one : 1 ≡ weight p = sym (weight-monomial (pos 1) d) in
    record {
      first = subst (λ k. IsNearCoordinate k s.x (λ n. first_coordinate n p x y)) one
          (low_is_near s.x (λ n. first_of at n d) (λ n. first_coordinate n p x y) (λ n. first_coordinates_add_up_lem.of_term n (pos 1) d x y) is.first);
      second = subst (λ k. IsNearCoordinate k s.y (λ n. second_coordinate n p x y)) one
          (low_is_near s.y (λ n. second_of at n d) (λ n. second_coordinate n p x y) (λ n. values_add_up_lem.of_term n (pos 1) d x y) is.second);
    }
