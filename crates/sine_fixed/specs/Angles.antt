-- The angles of a triangle over one denominator.

use Rattle.std.specs.Prelude.{◌+◌, ◌*◌, ◌^◌, ◌≤◌, pos, ◌≤ℤ◌, unsigned_abs}
use Rattle.rat_core.specs.Fraction.{ℚ, ◌÷◌}
use Rattle.exp_sums.specs.declared.direction.Dir.{Dir}
use Rattle.sine_fixed.specs.declared.angles.Angles.{Angles}

-- numerators from 0 to the denominator, and a denominator from 1 to 2^42
pub record IsAngles (a : Angles) : Type 0 where
  pub positive : pos 1 ≤ℤ a.den
  pub small : a.den ≤ℤ pos (2 ^ 42)
  pub first : pos 0 ≤ℤ a.first
  pub second : pos 0 ≤ℤ a.second
  pub first_within : a.first ≤ℤ a.den
  pub second_within : a.second ≤ℤ a.den

-- the angles at corners 1 and 2, in half turns
abbrev pub first_angle : Angles → ℚ
first_angle a = a.first ÷ unsigned_abs a.den

abbrev pub second_angle : Angles → ℚ
second_angle a = a.second ÷ unsigned_abs a.den

-- the numerators of mx + ny over the denominator are small
abbrev pub IsTurnInRange : Dir → Angles → Type 0
IsTurnInRange dir a = (unsigned_abs dir.m + unsigned_abs dir.n) * unsigned_abs a.den ≤ 2 ^ 52

-- those of twice as much and a quarter turn
abbrev pub IsHalfTurnInRange : Dir → Angles → Type 0
IsHalfTurnInRange dir a = (2 * (unsigned_abs dir.m + unsigned_abs dir.n) + 1) * unsigned_abs a.den ≤ 2 ^ 52
