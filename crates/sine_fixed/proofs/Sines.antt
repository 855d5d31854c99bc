-- The sine sums at the approximations of pi times a reference angle.
use Rattle.std.proofs.Common.{ℕ, ◌+◌, ◌≤◌, pos, arith}
use Rattle.std.proofs.lemmas.Int.{ints}
use Rattle.rat_core.specs.Fraction.{ℚ, ◌÷◌, whole, ◌-ℚ◌, ◌*ℚ◌, ◌≤ℚ◌, abs}
use Rattle.rat_core.proofs.Laws.{over_le, le_trans, mul_nonneg}
use Rattle.rat_core.proofs.Order.{over_nonneg}
use Rattle.trig_meaning.specs.PartialSums.{pi_sum, sine_sum}
use Rattle.trig_meaning.specs.FromSomeOn.{FromSomeOn}
use Rattle.trig_meaning.proofs.Tail.{sine_tail_small}
use Rattle.trig_meaning.proofs.PiSums.{pi_sum_nonneg, quarter_small}
use Rattle.sine_fixed.specs.ReferenceAngle.{ReferenceAngle, IsReference, value}
use Rattle.sine_fixed.specs.Near.{IsNear, one}
use Rattle.sine_fixed.proofs.Errors.{tail_near}

-- a reference angle is from 0 to 1/2
reference_small : (a : ReferenceAngle) → IsReference a → value a ≤ℚ pos 1 ÷ 2
reference_small a h =
    let quarter = h.quarter in
    let positive = h.positive in
    over_le (pos a.num) (pos 1) a.den 2 (omega arith) (omega arith) (omega (arith, ints))

-- what is cut off is within one unit
cut_off : (z : ℚ) → whole 0 ≤ℚ z → z ≤ℚ pos 8 ÷ 5 → (n : ℕ) → 11 ≤ n → abs (sine_sum n z -ℚ sine_sum 11 z) *ℚ one ≤ℚ whole 1
cut_off z low high n late =
    le_trans (abs (sine_sum n z -ℚ sine_sum 11 z) *ℚ one) (pos 1 ÷ 100) (whole 1) (sine_tail_small 60 (omega arith) z low high n late)
    (over_le (pos 1) (pos 1) 100 1 (omega arith) (omega arith) (omega (arith, ints)))

-- a number that stands for the cut series stands for the sine sums from some n on
pub sine_near : (angle number : ℕ) (t : ReferenceAngle) → IsReference t → FromSomeOn (λ n. IsNear 0 2 angle (pi_sum n *ℚ value t))
    → ((z : ℚ) → whole 0 ≤ℚ z → z ≤ℚ pos 8 ÷ 5 → IsNear 0 2 angle z → IsNear 26 29 number (sine_sum 11 z))
    → FromSomeOn (λ n. IsNear 27 30 number (sine_sum n (pi_sum n *ℚ value t)))
sine_near angle number t reference h cut = (h.0 + 16, from)
  where
    from : (n : ℕ) → h.0 + 16 ≤ n → IsNear 27 30 number (sine_sum n (pi_sum n *ℚ value t))
    from n l =
        let z = pi_sum n *ℚ value t in
        let late : 16 ≤ n = omega arith in
        let angle_nonneg : whole 0 ≤ℚ value t = over_nonneg t.num t.den in
        let low : whole 0 ≤ℚ z = mul_nonneg (pi_sum n) (value t) (pi_sum_nonneg n late) angle_nonneg in
        let high : z ≤ℚ pos 8 ÷ 5 = quarter_small n late (value t) angle_nonneg (reference_small t reference) in
        tail_near number (sine_sum 11 z) (sine_sum n z) (cut_off z low high n (omega arith)) (cut z low high (h.1 n (omega arith)))
