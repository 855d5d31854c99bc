-- The heights of corners: how far a corner lies to the left of the first lower one, seen along the shift and times the shift's length.

use Rattle.std.specs.Prelude.{ℕ, List}
use Rattle.exp_sums.specs.FormalPoint.{FormalPoint, conj, ◌-ₚ◌, ◌*ₚ◌}
use Rattle.exp_sums.specs.SineForm.{sine_form}
use Rattle.unfolding.specs.Corners.{upper_corner, lower_corner}

-- the cross product of v and z: the imaginary part of the conjugate of v times z
abbrev pub cross_product : FormalPoint → FormalPoint → FormalPoint
cross_product v z = sine_form (conj v *ₚ z)

-- the height of a point over the shift v: the cross product of the shift and the way from the first lower corner
unfoldable pub height : FormalPoint → List ℕ → FormalPoint → FormalPoint
height v w z = cross_product v (z -ₚ lower_corner w 1)

-- the height of the k-th upper corner
abbrev pub upper_height : FormalPoint → List ℕ → ℕ → FormalPoint
upper_height v w k = height v w (upper_corner w k)

-- the height of the l-th lower corner
abbrev pub lower_height : FormalPoint → List ℕ → ℕ → FormalPoint
lower_height v w l = height v w (lower_corner w l)
