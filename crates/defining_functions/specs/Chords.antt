-- Edges as chords, and lists of forms that grow. This is for how steps are made; no public clause speaks of it.

use Rattle.std.specs.Prelude.{◌≡◌, ℕ, List, ◌++◌, pos}
use Rattle.exp_sums.specs.FormalPoint.{FormalPoint, monomial, ◌-ₚ◌}
use Rattle.exp_sums.specs.Limits.{IsNear}
use Rattle.unfolding.specs.Corners.{upper_corner, lower_corner}
use Rattle.defining_functions.specs.declared.chord.Chord.{Chord}

-- the way from the lower end of the k-th edge to the upper one
pub record IsChord (w : List ℕ) (k : ℕ) (c : Chord) : Type 0 where
  pub way : upper_corner w k -ₚ lower_corner w k ≡ monomial (pos 1) c.plus -ₚ monomial (pos 1) c.minus
  pub plus : IsNear 65 c.plus
  pub minus : IsNear 65 c.minus

-- the first list, and what was added at its end
pub record Continues (old new : List FormalPoint) : Type 0 where
  pub more : List FormalPoint
  pub is : new ≡ old ++ more
