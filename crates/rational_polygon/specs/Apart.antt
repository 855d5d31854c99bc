-- Boxes that are apart from a polygon: a line on which an edge or a side of the bounding rectangle lies separates them.
-- Source: the theorem of the separating axis, as in Stefan Gottschalk, Ming Lin and Dinesh Manocha, OBBTree, SIGGRAPH 1996. Which lines are tried is
-- this program's own.

use Rattle.std.specs.Prelude.{ℕ, ◌≤◌, ◌⊎◌, All}
use Rattle.rat_core.specs.Fraction.{◌<ℚ◌}
use Rattle.rational_polygon.specs.Point.{IsStrictlyRight}
use Rattle.rational_polygon.specs.Square.{Square, box_corner}
use Rattle.rational_polygon.specs.Outline.{Outline, grid_point, IsNumber, corner, next}

-- the box lies strictly beyond the bounding rectangle: left of it, right of it, below or above
abbrev pub IsBeyond : Square → Outline → Type 0
IsBeyond box outline =
    All (λ c. (box_corner box 1 1).x <ℚ (grid_point outline.grid c).x) outline.corners
    ⊎ All (λ c. (grid_point outline.grid c).x <ℚ (box_corner box 0 0).x) outline.corners
    ⊎ All (λ c. (box_corner box 1 1).y <ℚ (grid_point outline.grid c).y) outline.corners
    ⊎ All (λ c. (grid_point outline.grid c).y <ℚ (box_corner box 0 0).y) outline.corners

-- the four corners of the box lie strictly right of edge k
abbrev pub IsRightOf : Square → Outline → ℕ → Type 0
IsRightOf box outline k = (a b : ℕ) → a ≤ 1 → b ≤ 1 → IsStrictlyRight (corner outline k) (corner outline (next outline k)) (box_corner box a b)

-- beyond the rectangle, or strictly right of an edge
abbrev pub IsApart : Square → Outline → Type 0
IsApart box outline = IsBeyond box outline ⊎ ((k : ℕ) × IsNumber outline k × IsRightOf box outline k)
