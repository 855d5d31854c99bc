-- The numbers of a point in a picture, from those of its spot.
use Rattle.std.proofs.Common.{◌≡◌, refl, sym, ap, ◌∙◌, subst, subst₂, ◌^◌, ◌≤◌, ℕ, [], ◌∷◌, ℤ, pos, ◌-ℤ◌, neg_ℤ, ◌≤ℤ◌, unsigned_abs, FitsSigned}
use Rattle.std.proofs.Common.{to_z, of_z, lit<, arith}
use Rattle.std.specs.Int.{w32}
use Rattle.std.proofs.lemmas.Int.{ints, to_z-of_z, fits_signed_from_abs}
use Rattle.ring_solver.specs.Expression.{num, opp, ◌⊞◌, ◌⊟◌, ◌⊠◌}
use Rattle.ring_solver.specs.Ordered.{le, times}
use Rattle.ring_solver.proofs.Certificate.{le₄, le₅, moved}
use Rattle.ring_solver.proofs.Solver.{ring₂}
use Rattle.rat_core.specs.Fraction.{ℚ, ◌÷◌, whole, ◌+ℚ◌, ◌-ℚ◌, ◌*ℚ◌, neg_ℚ, ◌≤ℚ◌, abs, at_most}
use Rattle.rat_core.specs.Written.{value}
use Rattle.rat_core.proofs.Laws.{ℚ_ring, ℚ_ordered, le_trans, over-mul, int-mul, int-neg}
use Rattle.rat_core.proofs.Order.{int_le_back, whole_le, whole_nonneg, over_nonneg, le_abs, neg_le_abs, abs_le, abs-neg}
use Rattle.exp_sums.specs.FormalPoint.{FormalPoint}
use Rattle.exp_sums.specs.Limits.{weight}
use Rattle.trig_meaning.specs.FromSomeOn.{FromSomeOn}
use Rattle.trig_meaning.specs.Value.{first_coordinate, second_coordinate}
use Rattle.trig_meaning.proofs.FromSomeOnLaws.{onward, onward_both, somewhere}
use Rattle.plane_points.specs.declared.spot.Spot.{Spot}
use Rattle.plane_points.specs.Kept.{IsSmallSpot}
use Rattle.plane_points.specs.Spots.{TriangleAngles, in_units, IsNearCoordinate, IsSpotOf}
use Rattle.plane_points.proofs.Crossing.{first_size, second_size}
use Rattle.svg_pictures.specs.Coordinates.{IsWithinOne, IsPictureOf}
use Rattle.svg_pictures.proofs.Rounded.{kept, kept_is, IsRoundedTo}

-- what a number of a spot is off by, for each unit of weight
abbrev near : ℚ
near = pos 1 ÷ 2 ^ 52

-- ---- the sizes of the numbers of a spot

-- at most 2 units and the error for each unit of weight
sum_of_sizes : whole 255 *ℚ (near +ℚ whole 2) ≤ℚ whole 1024
unfolding at_most ◌÷◌ ◌+ℚ◌ ◌*ℚ◌
sum_of_sizes = record { le = tt }

-- a number near one that is not large is not large
one_side : (z : ℤ) (u v : ℚ) (w : ℕ) → w ≤ 255 → u -ℚ v ≤ℚ whole w *ℚ near → v ≤ℚ whole w *ℚ whole 2 → u *ℚ whole (2 ^ 60) ≡ z ÷ 1 → z ≤ℤ pos (2 ^ 70)
one_side z u v w light off small is =
    int_le_back z (pos (2 ^ 70)) (moved ℚ_ordered is (sym (int-mul (pos 1024) (pos (2 ^ 60))))
    (le₄ ℚ_ordered (λ u b k c. u ⊠ k) (λ u b k c. c ⊠ k) (λ u b k c. times k u b ∷ times k b c ∷ []) refl u (whole 255 *ℚ (near +ℚ whole 2)) (whole (2 ^ 60))
    (whole 1024) (whole_nonneg (2 ^ 60), below, (whole_nonneg (2 ^ 60), sum_of_sizes, tt))))
  where
    below : u ≤ℚ whole 255 *ℚ (near +ℚ whole 2)
    below =
        le₅ ℚ_ordered (λ u v w e k. u) (λ u v w e k. k ⊠ (e ⊞ num 2))
        (λ u v w e k. le (u ⊟ v) (w ⊠ e) ∷ le v (w ⊠ num 2) ∷ times e w k ∷ times (num 2) w k ∷ []) refl u v (whole w) near (whole 255)
        (off, (small, (over_nonneg 1 (2 ^ 52), whole_le w 255 light, (whole_nonneg 2, whole_le w 255 light, tt))))

small_number : (z : ℤ) (v : ℚ) (w : ℕ) → w ≤ 255 → abs (in_units z -ℚ v) ≤ℚ whole w *ℚ near → abs v ≤ℚ whole w *ℚ whole 2 → unsigned_abs z ≤ 2 ^ 70
small_number z v w light off small =
    let u = in_units z in
    let is : u *ℚ whole (2 ^ 60) ≡ z ÷ 1 = over-mul z (2 ^ 60) (lit< tt) in
    let is_negative : neg_ℚ u *ℚ whole (2 ^ 60) ≡ neg_ℤ z ÷ 1 =
    ring₂ ℚ_ring (λ u k. opp u ⊠ k) (λ u k. opp (u ⊠ k)) refl u (whole (2 ^ 60)) ∙ ap neg_ℚ is ∙ sym (int-neg z) in
    both z
    (one_side z u v w light (le_trans (u -ℚ v) (abs (u -ℚ v)) (whole w *ℚ near) (le_abs (u -ℚ v)) off)
    (le_trans v (abs v) (whole w *ℚ whole 2) (le_abs v) small) is)
    (one_side (neg_ℤ z) (neg_ℚ u) (neg_ℚ v) w light
    (moved ℚ_ordered (ring₂ ℚ_ring (λ u v. opp (u ⊟ v)) (λ u v. opp u ⊟ opp v) refl u v) refl
    (le_trans (neg_ℚ (u -ℚ v)) (abs (u -ℚ v)) (whole w *ℚ near) (neg_le_abs (u -ℚ v)) off))
    (le_trans (neg_ℚ v) (abs v) (whole w *ℚ whole 2) (neg_le_abs v) small) is_negative)
  where
    both : (z : ℤ) → z ≤ℤ pos (2 ^ 70) → neg_ℤ z ≤ℤ pos (2 ^ 70) → unsigned_abs z ≤ 2 ^ 70
    both z h k = omega (arith, ints, h, k)

pub small_spot : (at : TriangleAngles) (p : FormalPoint) (s : Spot) → weight p ≤ 255 → IsSpotOf at p s → IsSmallSpot (2 ^ 70) s
small_spot at p s light is = record {
  x = sized s.x (λ n. first_coordinate n p (value at.0) (value at.1)) (λ n late. first_size n late (value at.0) (value at.1) p) is.first;
  y = sized s.y (λ n. second_coordinate n p (value at.0) (value at.1)) (λ n late. second_size n late (value at.0) (value at.1) p) is.second;
}
  where
    sized : (z : ℤ) (v : ℕ → ℚ) → ((n : ℕ) → 20 ≤ n → abs (v n) ≤ℚ whole (weight p) *ℚ whole 2) → IsNearCoordinate (weight p) z v → unsigned_abs z ≤ 2 ^ 70
    sized z v small close =
        let far : FromSomeOn (λ n. unsigned_abs z ≤ 2 ^ 70) =
        onward_both {P = λ n. abs (in_units z -ℚ v n) ≤ℚ whole (weight p) *ℚ near} {Q = λ n. 20 ≤ n}
        (λ n off late. small_number z (v n) (weight p) light off (small n late)) close (20, λ n late. late) in
        (somewhere far).1

-- the numbers as the machine keeps them
pub small_kept : (at : TriangleAngles) (p : FormalPoint) (s : Spot) → weight p ≤ 255 → IsSpotOf at p s
    → IsSmallSpot (2 ^ 70) (record { x = kept s.x; y = kept s.y })
small_kept at p s light is =
    let small = small_spot at p s light is in
    record {
      x = subst (λ (z : ℤ). unsigned_abs z ≤ 2 ^ 70) (sym (kept_is s.x small.x)) small.x;
      y = subst (λ (z : ℤ). unsigned_abs z ≤ 2 ^ 70) (sym (kept_is s.y small.y)) small.y;
    }

-- ---- the numbers of the picture

-- the error of the spot and that of the rounding
errors : pos 1 ÷ 2 +ℚ whole 1000 *ℚ (whole 255 *ℚ near) ≤ℚ whole 1
unfolding at_most ◌÷◌ ◌+ℚ◌ ◌*ℚ◌
errors = record { le = tt }

within_one : (z u v : ℚ) (w : ℕ) → w ≤ 255 → abs (z -ℚ whole 1000 *ℚ u) ≤ℚ pos 1 ÷ 2 → abs (u -ℚ v) ≤ℚ whole w *ℚ near
    → abs (z -ℚ whole 1000 *ℚ v) ≤ℚ whole 1
within_one z u v w light rounded off =
    abs_le (z -ℚ whole 1000 *ℚ v) (whole 1)
    (summed z u v (le_trans (z -ℚ whole 1000 *ℚ u) (abs (z -ℚ whole 1000 *ℚ u)) (pos 1 ÷ 2) (le_abs (z -ℚ whole 1000 *ℚ u)) rounded)
    (le_trans (u -ℚ v) (abs (u -ℚ v)) (whole w *ℚ near) (le_abs (u -ℚ v)) off))
    (moved ℚ_ordered (turned z v) refl
    (summed (neg_ℚ z) (neg_ℚ u) (neg_ℚ v)
    (moved ℚ_ordered (sym (turned z u)) refl
    (le_trans (neg_ℚ (z -ℚ whole 1000 *ℚ u)) (abs (z -ℚ whole 1000 *ℚ u)) (pos 1 ÷ 2) (neg_le_abs (z -ℚ whole 1000 *ℚ u)) rounded))
    (moved ℚ_ordered (ring₂ ℚ_ring (λ u v. opp (u ⊟ v)) (λ u v. opp u ⊟ opp v) refl u v) refl
    (le_trans (neg_ℚ (u -ℚ v)) (abs (u -ℚ v)) (whole w *ℚ near) (neg_le_abs (u -ℚ v)) off))))
  where
    turned : (z v : ℚ) → neg_ℚ z -ℚ whole 1000 *ℚ neg_ℚ v ≡ neg_ℚ (z -ℚ whole 1000 *ℚ v)
    turned = ring₂ ℚ_ring (λ z v. opp z ⊟ num 1000 ⊠ opp v) (λ z v. opp (z ⊟ num 1000 ⊠ v)) refl

    far : whole w *ℚ near ≤ℚ whole 255 *ℚ near
    far =
        le₄ ℚ_ordered (λ w e k z. w ⊠ e) (λ w e k z. k ⊠ e) (λ w e k z. times e w k ∷ []) refl (whole w) near (whole 255) z
        (over_nonneg 1 (2 ^ 52), whole_le w 255 light, tt)

    summed : (z u v : ℚ) → z -ℚ whole 1000 *ℚ u ≤ℚ pos 1 ÷ 2 → u -ℚ v ≤ℚ whole w *ℚ near → z -ℚ whole 1000 *ℚ v ≤ℚ whole 1
    summed z u v h k =
        le_trans (z -ℚ whole 1000 *ℚ v) (pos 1 ÷ 2 +ℚ whole 1000 *ℚ (whole 255 *ℚ near)) (whole 1)
        (le₅ ℚ_ordered (λ z u v g t. z ⊟ num 1000 ⊠ v) (λ z u v g t. g ⊞ num 1000 ⊠ t) (λ z u v g t. le (z ⊟ num 1000 ⊠ u) g ∷ times (num 1000) (u ⊟ v) t ∷ [])
        refl z u v (pos 1 ÷ 2) (whole 255 *ℚ near)
        (h, (whole_nonneg 1000, le_trans (u -ℚ v) (whole w *ℚ near) (whole 255 *ℚ near) k far, tt)))
        errors

-- the negative of a number stands for the negative of what it is near to
negative_near : (z : ℤ) (v : ℚ) → abs (z ÷ 1 -ℚ v) ≤ℚ whole 1 → abs (neg_ℤ z ÷ 1 -ℚ neg_ℚ v) ≤ℚ whole 1
negative_near z v h =
    let turned : neg_ℤ z ÷ 1 -ℚ neg_ℚ v ≡ neg_ℚ (z ÷ 1 -ℚ v) =
    ap (λ t. t -ℚ neg_ℚ v) (int-neg z) ∙ ring₂ ℚ_ring (λ z v. opp z ⊟ opp v) (λ z v. opp (z ⊟ v)) refl (z ÷ 1) v
    in
    subst (λ t. t ≤ℚ whole 1) (sym (ap abs turned ∙ abs-neg (z ÷ 1 -ℚ v))) h

-- the point as the machine keeps it
pub picture_computed : (at : TriangleAngles) (p : FormalPoint) (s : Spot) (a b : ℤ) → weight p ≤ 255 → IsSpotOf at p s → IsRoundedTo (kept s.x) a
    → IsRoundedTo (kept s.y) b
    → IsPictureOf p (value at.0) (value at.1) (record { across = to_z w32 (of_z w32 a); down = to_z w32 (of_z w32 (pos 0 -ℤ to_z w32 (of_z w32 b))) })
picture_computed at p s a b light is kept_first kept_second =
    let a_size = first.size in
    let b_size = second.size in
    let turned : pos 0 -ℤ b ≡ neg_ℤ b = opposite b in
    let negative_size : unsigned_abs (neg_ℤ b) ≤ 2 ^ 24 = subst (λ z. unsigned_abs z ≤ 2 ^ 24) turned (same_size b b_size) in
    let a_fits : FitsSigned w32 a = fits_signed_from_abs w32 a (omega arith) in
    let b_fits : FitsSigned w32 b = fits_signed_from_abs w32 b (omega arith) in
    let negative_fits : FitsSigned w32 (neg_ℤ b) = fits_signed_from_abs w32 (neg_ℤ b) (omega arith) in
    let down : to_z w32 (of_z w32 (pos 0 -ℤ to_z w32 (of_z w32 b))) ≡ neg_ℤ b =
    ap (λ z. to_z w32 (of_z w32 (pos 0 -ℤ z))) (to_z-of_z w32 b b_fits) ∙ ap (λ z. to_z w32 (of_z w32 z)) turned ∙ to_z-of_z w32 (neg_ℤ b) negative_fits
    in
    subst₂ (λ m n. IsPictureOf p (value at.0) (value at.1) (record { across = m; down = n })) (sym (to_z-of_z w32 a a_fits)) (sym down)
    (record { across = across_is; down = down_is })
  where
    opposite : (z : ℤ) → pos 0 -ℤ z ≡ neg_ℤ z
    opposite z = omega (arith, ints)

    same_size : (z : ℤ) → unsigned_abs z ≤ 2 ^ 24 → unsigned_abs (pos 0 -ℤ z) ≤ 2 ^ 24
    same_size z h = omega (arith, ints)

    small : IsSmallSpot (2 ^ 70) s
    small = small_spot at p s light is

    first : IsRoundedTo s.x a
    first = subst (λ z. IsRoundedTo z a) (kept_is s.x small.x) kept_first

    second : IsRoundedTo s.y b
    second = subst (λ z. IsRoundedTo z b) (kept_is s.y small.y) kept_second

    across_is : IsWithinOne a (λ n. whole 1000 *ℚ first_coordinate n p (value at.0) (value at.1))
    across_is =
        onward (λ n h. within_one (a ÷ 1) (in_units s.x) (first_coordinate n p (value at.0) (value at.1)) (weight p) light first.near h) is.first

    down_is : IsWithinOne (neg_ℤ b) (λ n. neg_ℚ (whole 1000 *ℚ second_coordinate n p (value at.0) (value at.1)))
    down_is =
        onward
        (λ n h.
        negative_near b (whole 1000 *ℚ second_coordinate n p (value at.0) (value at.1))
        (within_one (b ÷ 1) (in_units s.y) (second_coordinate n p (value at.0) (value at.1)) (weight p) light second.near h))
        is.second
