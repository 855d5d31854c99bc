-- Fractions and the whole numbers that stand for them, with a bound on the error.
use Rattle.std.specs.Prelude.{ℕ, ◌^◌}
use Rattle.rat_core.specs.Fraction.{ℚ, whole, ◌+ℚ◌, ◌*ℚ◌, ◌≤ℚ◌}

-- the number 1, in units of 2^-60
abbrev pub one : ℚ
one = whole (2 ^ 60)

-- in units of 2^-60, v is at most `below` under the number x and at most `above` over it
pub record IsNear (below above x : ℕ) (v : ℚ) : Type 0 where
  pub low : whole x ≤ℚ v *ℚ one +ℚ whole below
  pub high : v *ℚ one ≤ℚ whole x +ℚ whole above
