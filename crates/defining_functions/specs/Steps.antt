-- How the heights of corners follow from one another along the edges that a path crosses.
-- An edge shares an end with the edge before, and is a chord of the unit circle round a triangle: the way from its lower end to its upper one is the
-- difference of two directions. So each height is that of the edge's other end, plus or minus the difference of two forms, and as triangles share
-- their directions, all heights of a word follow from few forms.

use Rattle.std.specs.Prelude.{◌≡◌, ℕ, ◌+◌, ◌<◌, List, length, slice_index_or}
use Rattle.exp_sums.specs.FormalPoint.{FormalPoint, ◌+ₚ◌, ◌-ₚ◌}
use Rattle.unfolding.specs.Corners.{upper_corner, lower_corner}
use Rattle.unfolding.specs.Shift.{IsShift}
use Rattle.defining_functions.specs.Heights.{upper_height, lower_height}
use Rattle.defining_functions.specs.Kept.{AreWithinLimits}
use Rattle.defining_functions.specs.Tables.{IsTable}
use Rattle.defining_functions.specs.declared.shared_end.SharedEnd.{SharedEnd}
use Rattle.defining_functions.specs.declared.shared_end.SharedEnd.TheVariants.{Upper, Lower, Neither}
use Rattle.defining_functions.specs.declared.step.Step.{Step}

-- the end that the edge i + 1 shares with the edge i, for every edge but the first
abbrev pub SharesEnd : List ℕ → ℕ → SharedEnd → Type 0
SharesEnd w i Upper = (0 < i) × (upper_corner w (i + 1) ≡ upper_corner w i)
SharesEnd w i Lower = (0 < i) × (lower_corner w (i + 1) ≡ lower_corner w i)
SharesEnd w i Neither = i ≡ 0

-- the step of the edge i + 1: the height of its upper end is that of its lower end and the difference of two forms
pub record IsStep (w : List ℕ) (forms : List FormalPoint) (i : ℕ) (s : Step) : Type 0 where
  pub shared : SharesEnd w i s.shared
  pub plus : s.plus < length forms
  pub minus : s.minus < length forms
  pub way : (v z : FormalPoint) → IsShift w v →
      upper_height v w (i + 1) ≡ lower_height v w (i + 1) +ₚ (slice_index_or forms s.plus z -ₚ slice_index_or forms s.minus z)

-- the steps of the first n edges, over forms within the limits of functions
pub record AreSteps (w : List ℕ) (n : ℕ) (forms : List FormalPoint) (steps : List Step) : Type 0 where
  pub limits : AreWithinLimits forms
  pub each : IsTable (IsStep w forms) n steps
