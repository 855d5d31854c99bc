-- What a function reaches at a point, and all functions at a corner of a box.

use Rattle.std.specs.Prelude.{ℕ, List}
use Rattle.rat_core.specs.Fraction.{ℚ, ◌+ℚ◌, ◌≤ℚ◌}
use Rattle.edge_words.specs.Letters.{IsPlace}
use Rattle.exp_sums.specs.FormalPoint.{FormalPoint}
use Rattle.trig_meaning.specs.FromSomeOn.{FromSomeOn}
use Rattle.trig_meaning.specs.Value.{value_at}
use Rattle.unfolding.specs.Shift.{IsShift}
use Rattle.rational_polygon.specs.Square.{Square, box_corner}
use Rattle.defining_functions.specs.Functions.{defining_function}
use Rattle.gradient_bounds.specs.Clear.{margin}
use Rattle.gradient_bounds.specs.CornerClear.{sag}

-- its sag in the box and its margin with the slack e, from some n on
abbrev pub ReachesAt : Square → ℚ → FormalPoint → ℚ → ℚ → Type 0
ReachesAt box e f x y = FromSomeOn (λ n. sag n box f +ℚ margin e f ≤ℚ value_at n f x y)

-- each function reaches both at the corner (a, b) of the box
abbrev pub EachReachesAtCorner : Square → ℚ → List ℕ → ℕ → ℕ → Type 0
EachReachesAtCorner box e w a b =
    (k l : ℕ) → IsPlace w k → IsPlace w l → (v : FormalPoint) → IsShift w v →
    ReachesAt box e (defining_function v w k l) (box_corner box a b).x (box_corner box a b).y
