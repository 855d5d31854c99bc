-- The reference angle of an angle: the one from 0 to a quarter turn that has the same sine, up to the sign (the usual
-- reduction to the first quadrant, for example Abramowitz and Stegun, Handbook of Mathematical Functions, 4.3.44). Angles
-- are counted in half turns: t stands for pi·t.
use Rattle.std.specs.Prelude.{ℕ, ◌*◌, ◌^◌, ◌≤◌, Bool, true, false, cond, not, pos}
use Rattle.rat_core.specs.Fraction.{ℚ, ◌÷◌, whole, ◌-ℚ◌, ◌*ℚ◌, neg_ℚ, at_most}
use Rattle.trig_meaning.specs.PartialSums.{pi_sum, sine_sum}

-- the reference angle of t, by the first case that fits, for 0 ≤ t < 2
abbrev pub reference_of : ℚ → ℚ
reference_of t =
    cond (at_most t (pos 1 ÷ 2)) t
    (cond (at_most t (whole 1)) (whole 1 -ℚ t)
    (cond (at_most t (pos 3 ÷ 2)) (t -ℚ whole 1)
    (whole 2 -ℚ t)))

-- the second half of the turn, where the sine is negative
abbrev pub is_negative : ℚ → Bool
is_negative t = not (at_most t (whole 1))

-- a reference angle of num / den half turns, with the sign of the sine
pub record ReferenceAngle : Type 0 where
  pub negative : Bool
  pub num : ℕ
  pub den : ℕ

-- from 0 to 1/2, over a denominator from 1 to 2^42
pub record IsReference (a : ReferenceAngle) : Type 0 where
  pub positive : 1 ≤ a.den
  pub small : a.den ≤ 2 ^ 42
  pub quarter : 2 * a.num ≤ a.den

abbrev pub value : ReferenceAngle → ℚ
value a = pos a.num ÷ a.den

-- x, or its negative
abbrev pub signed_value : Bool → ℚ → ℚ
signed_value false x = x
signed_value true x = neg_ℚ x

-- the n-th approximation of the sine: plus or minus the n-th sine sum at the n-th approximation of pi times the angle
abbrev pub sine_of : ℕ → ReferenceAngle → ℚ
sine_of n a = signed_value a.negative (sine_sum n (pi_sum n *ℚ value a))
