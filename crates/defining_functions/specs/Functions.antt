-- The defining functions of a word, one for each upper and each lower corner of its unfolding, and the heights of the corners.
-- A path with the word runs along the shift, over every lower corner and under every upper one. So there is one where each upper corner lies to the
-- left of each lower corner, seen along the shift.
-- Source: Richard Evan Schwartz, Obtuse Triangular Billiards I: Near the (2, 3, 6) Triangle, Experimental Mathematics 15 (2006), where these sums of
-- sines cut out the triangles in which a stable word has a path.

use Rattle.std.specs.Prelude.{ℕ, ◌*◌, ◌≤◌, List}
use Rattle.exp_sums.specs.FormalPoint.{FormalPoint, conj, ◌-ₚ◌, ◌*ₚ◌}
use Rattle.exp_sums.specs.Limits.{weight, IsWithin}
use Rattle.exp_sums.specs.Reach.{reach}
use Rattle.exp_sums.specs.SineForm.{sine_form}
use Rattle.unfolding.specs.Corners.{upper_corner, lower_corner}

-- The cross product of the shift v and the way from the l-th lower corner to the k-th upper one, which is the imaginary part of the one's conjugate
-- times the other: positive where the upper corner lies to the left.
unfoldable pub defining_function : FormalPoint → List ℕ → ℕ → ℕ → FormalPoint
defining_function v w k l = sine_form (conj v *ₚ (upper_corner w k -ₚ lower_corner w l))

-- how large a defining function is at most
pub record IsWithinFunctionLimits (f : FormalPoint) : Type 0 where
  pub within : IsWithin 130 f
  pub light : weight f ≤ 16384
  pub slow : reach f ≤ 260 * weight f
