-- What functions have to reach at the corners of a box, in units of 2^−bits.

use Rattle.std.specs.Prelude.{◌≡◌, ℕ, ◌+◌, ◌-◌, ◌*◌, ◌^◌, ℤ, pos, ◌*ℤ◌}
use Rattle.directed_fixed.specs.Rounding.{IsCeiling}
use Rattle.gradient_bounds.specs.declared.threshold.Measure.TheVariants.{Bend}
use Rattle.gradient_bounds.specs.declared.threshold.Threshold.{Threshold}

-- The sag, where pi is at most `pi` units, and the slack 2^−low: with pi² rounded up, 2·pi²·bend·(half the side)² is 2·pi²·bend / 4^(level + 1).
pub record IsSagThreshold (bits : ℕ) (pi : ℤ) (level low : ℕ) (t : Threshold) : Type 0 where
  pub square : ℤ
  pub is_square : IsCeiling square (pi *ℤ pi) (pos (2 ^ bits))
  pub is : t ≡ record { measure = Bend; rate = pos 2 *ℤ square; parts = pos (2 ^ (2 * level + 2)); slack = pos (2 ^ (bits - low)) }
