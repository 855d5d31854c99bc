-- Corridors over a whole box with room to spare, seen from its four corners.
-- Along a straight line the sine of pi·t lies above the chord between two of its values, 2·h apart in t, but for 2·pi²·h². So a function inside a box
-- is at least its least value at the four corners, but for its sag. The constant 2 is larger than it need be.
-- Source: the error of linear interpolation, Kendall Atkinson, An Introduction to Numerical Analysis, 2nd edition (1989), section 3.1. The constant and
-- the level are this program's own.

use Rattle.std.specs.Prelude.{ℕ, ◌≤◌, List}
use Rattle.rat_core.specs.Fraction.{ℚ, whole, ◌+ℚ◌, ◌*ℚ◌, ◌≤ℚ◌}
use Rattle.exp_sums.specs.FormalPoint.{FormalPoint}
use Rattle.exp_sums.specs.Bend.{bend}
use Rattle.trig_meaning.specs.FromSomeOn.{FromSomeOn}
use Rattle.trig_meaning.specs.PartialSums.{pi_sum}
use Rattle.trig_meaning.specs.Value.{value_at}
use Rattle.rational_polygon.specs.Square.{Square, box_corner, half_side}
use Rattle.gradient_bounds.specs.Corridor.{EachFunction}
use Rattle.gradient_bounds.specs.Clear.{margin}

-- how far the value of a function in a box may lie below its values at the corners: 2·pi²·bend·(half the side)²
abbrev pub sag : ℕ → Square → FormalPoint → ℚ
sag n box f = whole 2 *ℚ (pi_sum n *ℚ pi_sum n) *ℚ (whole (bend f) *ℚ (half_side box *ℚ half_side box))

-- at each of the four corners (a, b) of the box the function reaches its sag and its margin, from some n on
abbrev pub IsCornerClearFunction : Square → ℚ → FormalPoint → Type 0
IsCornerClearFunction box e f =
    (a b : ℕ) → a ≤ 1 → b ≤ 1 → FromSomeOn (λ n. sag n box f +ℚ margin e f ≤ℚ value_at n f (box_corner box a b).x (box_corner box a b).y)

-- each defining function of the word is clear at the corners of the box, whose level is at least 10
pub record IsCornerClear (w : List ℕ) (box : Square) (e : ℚ) : Type 0 where
  pub deep : 10 ≤ box.level
  pub each : EachFunction w (IsCornerClearFunction box e)
