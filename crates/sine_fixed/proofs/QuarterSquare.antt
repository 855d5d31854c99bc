-- A quarter of the square of an angle from 0 to 8/5, and the angle itself: how large they are.
use Rattle.std.proofs.Common.{◌≡◌, refl, sym, ap, ap₂, subst, ◌∙◌, pos, [], ◌∷◌, arith, lit<}
use Rattle.std.proofs.lemmas.Int.{ints}
use Rattle.ring_solver.specs.Expression.{num, ◌⊠◌}
use Rattle.ring_solver.specs.Ordered.{le, times, same}
use Rattle.ring_solver.proofs.Solver.{ring₁, ring₂}
use Rattle.ring_solver.proofs.Certificate.{le₂, mul_mono}
use Rattle.rat_core.specs.Fraction.{ℚ, ◌÷◌, whole, ◌*ℚ◌, ◌≤ℚ◌, at_most}
use Rattle.rat_core.proofs.Laws.{ℚ_ring, ℚ_ordered, over-mul, over_le, le_trans, mul_nonneg, mul-one}
use Rattle.rat_core.proofs.Order.{whole_le, whole_nonneg, over_nonneg, cancel_le, mul_mono_both}

abbrev pub quarter_square : ℚ → ℚ
quarter_square z = z *ℚ z *ℚ (pos 1 ÷ 4)

pub four_times : (z : ℚ) → whole 4 *ℚ quarter_square z ≡ z *ℚ z
four_times z =
    ring₂ ℚ_ring (λ z i. num 4 ⊠ (z ⊠ z ⊠ i)) (λ z i. z ⊠ z ⊠ (i ⊠ num 4)) refl z (pos 1 ÷ 4)
    ∙ ap (λ t. z *ℚ z *ℚ t) (over-mul (pos 1) 4 (lit< tt)) ∙ mul-one (z *ℚ z)

pub quarter_square_nonneg : (z : ℚ) → whole 0 ≤ℚ z → whole 0 ≤ℚ quarter_square z
quarter_square_nonneg z h = mul_nonneg (z *ℚ z) (pos 1 ÷ 4) (mul_nonneg z z h h) (over_nonneg 1 4)

greatest_square : (pos 8 ÷ 5) *ℚ (pos 8 ÷ 5) ≤ℚ whole 3
unfolding at_most ◌*ℚ◌ ◌÷◌
greatest_square = record { le = tt }

-- at most 3/4
pub quarter_square_small : (z : ℚ) → whole 0 ≤ℚ z → z ≤ℚ pos 8 ÷ 5 → whole 16 *ℚ quarter_square z ≤ℚ whole 12
quarter_square_small z h l =
    let square : z *ℚ z ≤ℚ whole 3 =
    le_trans (z *ℚ z) ((pos 8 ÷ 5) *ℚ (pos 8 ÷ 5)) (whole 3) (mul_mono_both z (pos 8 ÷ 5) z (pos 8 ÷ 5) h (over_nonneg 8 5) l l) greatest_square
    in
    le₂ ℚ_ordered (λ w s. num 16 ⊠ w) (λ w s. num 12) (λ w s. same (num 4) (num 4 ⊠ w) s ∷ times (num 4) s (num 3) ∷ []) refl
    (quarter_square z) (z *ℚ z) (four_times z, (whole_nonneg 4, square, tt))

-- six times it is at most 5
pub quarter_square_at_most : (z : ℚ) → whole 0 ≤ℚ z → z ≤ℚ pos 8 ÷ 5 → whole 6 *ℚ quarter_square z ≤ℚ whole 5
quarter_square_at_most z h l =
    let small = quarter_square_small z h l in
    cancel_le 8 (lit< tt) (whole 6 *ℚ quarter_square z) (whole 5)
    (le₂ ℚ_ordered (λ w s. num 6 ⊠ w ⊠ num 8) (λ w s. num 5 ⊠ num 8) (λ w s. times (num 3) (num 16 ⊠ w) (num 12) ∷ le (num 36) (num 40) ∷ []) refl
    (quarter_square z) (z *ℚ z) (whole_nonneg 3, small, (whole_le 36 40 (omega arith), tt)))

greatest_fourth_power : (pos 8 ÷ 5) *ℚ (pos 8 ÷ 5) *ℚ ((pos 8 ÷ 5) *ℚ (pos 8 ÷ 5)) ≤ℚ whole 7
unfolding at_most ◌*ℚ◌ ◌÷◌
greatest_fourth_power = record { le = tt }

pub fourth_power_nonneg : (z : ℚ) → whole 0 ≤ℚ z → whole 0 ≤ℚ quarter_square z *ℚ quarter_square z
fourth_power_nonneg z h = mul_nonneg (quarter_square z) (quarter_square z) (quarter_square_nonneg z h) (quarter_square_nonneg z h)

-- its square is at most 7/16
pub fourth_power_small : (z : ℚ) → whole 0 ≤ℚ z → z ≤ℚ pos 8 ÷ 5 → whole 16 *ℚ (quarter_square z *ℚ quarter_square z) ≤ℚ whole 7
fourth_power_small z h l =
    let e = pos 8 ÷ 5 in
    let square : z *ℚ z ≤ℚ e *ℚ e = mul_mono_both z e z e h (over_nonneg 8 5) l l in
    let is : whole 16 *ℚ (quarter_square z *ℚ quarter_square z) ≡ z *ℚ z *ℚ (z *ℚ z) =
    ring₁ ℚ_ring (λ w. num 16 ⊠ (w ⊠ w)) (λ w. num 4 ⊠ w ⊠ (num 4 ⊠ w)) refl (quarter_square z) ∙ ap₂ ◌*ℚ◌ (four_times z) (four_times z) in
    subst (λ t. t ≤ℚ whole 7) (sym is)
    (le_trans (z *ℚ z *ℚ (z *ℚ z)) (e *ℚ e *ℚ (e *ℚ e)) (whole 7)
    (mul_mono_both (z *ℚ z) (e *ℚ e) (z *ℚ z) (e *ℚ e) (mul_nonneg z z h h) (mul_nonneg e e (over_nonneg 8 5) (over_nonneg 8 5)) square square)
    greatest_fourth_power)

pub at_most_two : (z : ℚ) → z ≤ℚ pos 8 ÷ 5 → z ≤ℚ whole 2
at_most_two z h = le_trans z (pos 8 ÷ 5) (whole 2) h (over_le (pos 8) (pos 2) 5 1 (omega arith) (omega arith) (omega (arith, ints)))

greatest_multiple : whole 16 *ℚ (pos 8 ÷ 5) ≤ℚ whole 26
unfolding at_most ◌*ℚ◌ ◌÷◌
greatest_multiple = record { le = tt }

pub sixteen_times : (z : ℚ) → z ≤ℚ pos 8 ÷ 5 → whole 16 *ℚ z ≤ℚ whole 26
sixteen_times z h =
    le_trans (whole 16 *ℚ z) (whole 16 *ℚ (pos 8 ÷ 5)) (whole 26) (mul_mono ℚ_ordered (whole 16) z (pos 8 ÷ 5) (whole_nonneg 16) h) greatest_multiple
