-- Why a grid and corners make no polygon.

use Rattle.std.specs.Prelude.{◌≡◌, ℕ, ◌-◌, ◌<◌, ◌⊎◌, length, slice_index_or, All}
use Rattle.rational_polygon.specs.declared.fault.PolygonFault.{PolygonFault}
use Rattle.rational_polygon.specs.declared.fault.PolygonFault.TheVariants.{Grid, Count, Corner, Turn}
use Rattle.rational_polygon.specs.Outline.{Outline, IsGrid, IsCount, IsInside, IsNumber, IsConvexAt}

-- corner k lies strictly inside the triangle of the grid
abbrev pub IsInsideAt : Outline → ℕ → Type 0
IsInsideAt outline k = IsInside outline.grid (slice_index_or outline.corners (k - 1) (0, 0))

-- k is the first corner that does not
pub record IsFirstOutside (outline : Outline) (k : ℕ) : Type 0 where
  pub number : IsNumber outline k
  pub outside : ¬ IsInsideAt outline k
  pub earlier : (l : ℕ) → IsNumber outline l → l < k → IsInsideAt outline l

-- the pair (k, l) stands lexicographically before (i, j)
abbrev pub IsBefore : ℕ → ℕ → ℕ → ℕ → Type 0
IsBefore k l i j = (k < i) ⊎ ((k ≡ i) × (l < j))

-- (i, j) is the lexicographically least pair of an edge and a corner that is neither an end of it nor strictly left of it
pub record IsFirstTurn (outline : Outline) (i j : ℕ) : Type 0 where
  pub edge : IsNumber outline i
  pub corner : IsNumber outline j
  pub turned : ¬ IsConvexAt outline i j
  pub earlier : (k l : ℕ) → IsNumber outline k → IsNumber outline l → IsBefore k l i j → IsConvexAt outline k l

-- the first condition that fails, in the order of the variants
abbrev pub IsFaultOf : Outline → PolygonFault → Type 0
IsFaultOf outline Grid = ¬ IsGrid outline.grid
IsFaultOf outline Count = IsGrid outline.grid × (¬ IsCount (length outline.corners))
IsFaultOf outline (Corner i) = IsGrid outline.grid × IsCount (length outline.corners) × IsFirstOutside outline i
IsFaultOf outline (Turn i j) = IsGrid outline.grid × IsCount (length outline.corners) × All (IsInside outline.grid) outline.corners × IsFirstTurn outline i j
