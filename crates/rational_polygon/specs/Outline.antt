-- Polygons with their corners on a grid, and the points in them.
-- Source: Franco Preparata and Michael Shamos, Computational Geometry, chapter 2. The grid and the limits are this program's own.

use Rattle.std.specs.Prelude.{◌≢◌, ℕ, ◌+◌, ◌-◌, ◌%◌, ◌<◌, ◌≤◌, pos, List, length, slice_index_or, All, Any}
use Rattle.rat_core.specs.Fraction.{◌÷◌, ◌≤ℚ◌}
use Rattle.rational_polygon.specs.declared.TheConstants.{MAX_GRID, MIN_CORNERS, MAX_CORNERS}
use Rattle.rational_polygon.specs.Point.{Point, IsStrictlyLeft, IsOnOrLeft}

-- the corners in grid steps, one after another
pub record Outline : Type 0 where
  pub grid : ℕ
  pub corners : List (ℕ × ℕ)

-- (X, Y) is the point (X / grid, Y / grid)
abbrev pub grid_point : ℕ → ℕ × ℕ → Point
grid_point grid c = record { x = pos c.0 ÷ grid; y = pos c.1 ÷ grid }

-- Corners count from 1. Edge k goes from corner k to the next one.
pub record IsNumber (outline : Outline) (k : ℕ) : Type 0 where
  pub at_least : 1 ≤ k
  pub at_most : k ≤ length outline.corners

-- the point of corner k
abbrev pub corner : Outline → ℕ → Point
corner outline k = grid_point outline.grid (slice_index_or outline.corners (k - 1) (0, 0))

-- after the last corner the first follows
abbrev pub next : Outline → ℕ → ℕ
next outline k = k % length outline.corners + 1

-- Corner j is an end of edge i or strictly left of it. An end is one by its number: a corner that stands twice is not.
abbrev pub IsConvexAt : Outline → ℕ → ℕ → Type 0
IsConvexAt outline i j = j ≢ i → j ≢ next outline i → IsStrictlyLeft (corner outline i) (corner outline (next outline i)) (corner outline j)

-- the corners run counterclockwise round a strictly convex polygon
abbrev pub IsStrictlyConvex : Outline → Type 0
IsStrictlyConvex outline = (i j : ℕ) → IsNumber outline i → IsNumber outline j → IsConvexAt outline i j

-- how many grid steps are 1
abbrev pub IsGrid : ℕ → Type 0
IsGrid grid = (1 ≤ grid) × (grid ≤ MAX_GRID)

-- how many corners there are
abbrev pub IsCount : ℕ → Type 0
IsCount count = (MIN_CORNERS ≤ count) × (count ≤ MAX_CORNERS)

-- strictly inside the triangle of the corners (0, 0), (grid, 0) and (0, grid)
pub record IsInside (grid : ℕ) (c : ℕ × ℕ) : Type 0 where
  pub x : 1 ≤ c.0
  pub y : 1 ≤ c.1
  pub sum : c.0 + c.1 < grid

-- a strictly convex polygon, counterclockwise, with its corners strictly inside the triangle x > 0, y > 0, x + y < 1
pub record IsPolygon (outline : Outline) : Type 0 where
  pub grid : IsGrid outline.grid
  pub count : IsCount (length outline.corners)
  pub inside : All (IsInside outline.grid) outline.corners
  pub convex : IsStrictlyConvex outline

-- in the closed bounding rectangle of the corners
pub record IsInRectangle (outline : Outline) (p : Point) : Type 0 where
  pub left : Any (λ c. (grid_point outline.grid c).x ≤ℚ p.x) outline.corners
  pub right : Any (λ c. p.x ≤ℚ (grid_point outline.grid c).x) outline.corners
  pub below : Any (λ c. (grid_point outline.grid c).y ≤ℚ p.y) outline.corners
  pub above : Any (λ c. p.y ≤ℚ (grid_point outline.grid c).y) outline.corners

-- on or left of every edge
abbrev pub IsOnOrLeftOfEdges : Outline → Point → Type 0
IsOnOrLeftOfEdges outline p = (k : ℕ) → IsNumber outline k → IsOnOrLeft (corner outline k) (corner outline (next outline k)) p

-- a point of the polygon
pub record IsInPolygon (outline : Outline) (p : Point) : Type 0 where
  pub rectangle : IsInRectangle outline p
  pub edges : IsOnOrLeftOfEdges outline p
