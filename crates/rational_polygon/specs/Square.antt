-- The boxes of the quadtree over the unit square, and the points in them.
-- Source: Raphael Finkel and Jon Bentley, Quad Trees: A Data Structure for Retrieval on Composite Keys, Acta Informatica 4 (1974). The greatest level
-- and the order of the children are this program's own.

use Rattle.std.specs.Prelude.{ℕ, ◌+◌, ◌*◌, ◌/◌, ◌%◌, ◌^◌, ◌<◌, ◌≤◌, pos}
use Rattle.rat_core.specs.Fraction.{ℚ, ◌÷◌, ◌≤ℚ◌}
use Rattle.rational_polygon.specs.declared.TheConstants.{MAX_LEVEL}
use Rattle.rational_polygon.specs.Point.{Point}

-- The closed square with the lower left corner (i, j) / 2^level and the side 1 / 2^level.
pub record Square : Type 0 where
  pub i : ℕ
  pub j : ℕ
  pub level : ℕ

-- a square of the tree: its level is at most MAX_LEVEL, and it lies in the unit square
pub record IsBox (box : Square) : Type 0 where
  pub depth : box.level ≤ MAX_LEVEL
  pub column : box.i < 2 ^ box.level
  pub row : box.j < 2 ^ box.level

-- the root of the quadtree
abbrev pub unit_square : Square
unit_square = record { i = 0; j = 0; level = 0 }

-- the child c, from 0 to 3: lower left, lower right, upper left, upper right
abbrev pub child : Square → ℕ → Square
child box c = record { i = 2 * box.i + c % 2; j = 2 * box.j + c / 2; level = box.level + 1 }

-- the dyadic fraction n / 2^level
abbrev pub dyadic : ℕ → ℕ → ℚ
dyadic n level = pos n ÷ (2 ^ level)

-- the corner (a, b) of a box, where a and b are 0 or 1: (0, 0) is lower left, (1, 1) upper right
abbrev pub box_corner : Square → ℕ → ℕ → Point
box_corner box a b = record { x = dyadic (box.i + a) box.level; y = dyadic (box.j + b) box.level }

-- half the side
abbrev pub half_side : Square → ℚ
half_side box = dyadic 1 (box.level + 1)

-- the centre of a box
abbrev pub centre : Square → Point
centre box = record { x = dyadic (2 * box.i + 1) (box.level + 1); y = dyadic (2 * box.j + 1) (box.level + 1) }

-- the point lies in the closed square
pub record IsInBox (box : Square) (p : Point) : Type 0 where
  pub left : (box_corner box 0 0).x ≤ℚ p.x
  pub right : p.x ≤ℚ (box_corner box 1 1).x
  pub below : (box_corner box 0 0).y ≤ℚ p.y
  pub above : p.y ≤ℚ (box_corner box 1 1).y
