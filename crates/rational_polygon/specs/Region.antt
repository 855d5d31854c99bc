-- Regions: unions of polygons on one grid, the points in them, and the boxes that are apart from them.
-- Source: Franco Preparata and Michael Shamos, Computational Geometry, chapter 1, on unions of convex polygons. The limit is this program's own.

use Rattle.std.specs.Prelude.{◌≡◌, ◌≢◌, ℕ, ◌-◌, ◌<◌, ◌≤◌, List, [], length, slice_index_or, All, Any}
use Rattle.rational_polygon.specs.declared.TheConstants.{MAX_POLYGONS}
use Rattle.rational_polygon.specs.declared.fault.RegionFault.{RegionFault}
use Rattle.rational_polygon.specs.declared.fault.RegionFault.TheVariants.{Count, Grid}
use Rattle.rational_polygon.specs.Point.{Point}
use Rattle.rational_polygon.specs.Square.{Square}
use Rattle.rational_polygon.specs.Outline.{Outline, IsPolygon, IsInPolygon}
use Rattle.rational_polygon.specs.Apart.{IsApart}

-- polygons count from 1
abbrev pub polygon_at : List Outline → ℕ → Outline
polygon_at region i = slice_index_or region (i - 1) (record { grid = 0; corners = [] })

-- i is the number of a polygon
pub record IsPolygonOf (region : List Outline) (i : ℕ) : Type 0 where
  pub at_least : 1 ≤ i
  pub at_most : i ≤ length region

-- the grid of the first polygon
abbrev pub grid_of : List Outline → ℕ
grid_of region = (polygon_at region 1).grid

-- how many polygons there are
abbrev pub IsPolygonCount : ℕ → Type 0
IsPolygonCount count = (1 ≤ count) × (count ≤ MAX_POLYGONS)

-- each polygon is on the grid of the first
abbrev pub IsOnOneGrid : List Outline → Type 0
IsOnOneGrid region = All (λ polygon. polygon.grid ≡ grid_of region) region

-- the polygons of a region, one after another
pub record IsRegion (region : List Outline) : Type 0 where
  pub count : IsPolygonCount (length region)
  pub polygons : All IsPolygon region
  pub one_grid : IsOnOneGrid region

-- a point of the region is one of some polygon
abbrev pub IsInRegion : List Outline → Point → Type 0
IsInRegion region p = Any (λ polygon. IsInPolygon polygon p) region

-- a box that is apart from the region is apart from each polygon
abbrev pub IsApartFromRegion : Square → List Outline → Type 0
IsApartFromRegion box region = All (IsApart box) region

-- i is the number of the first polygon on another grid than the first one's
pub record IsFirstOtherGrid (region : List Outline) (i : ℕ) : Type 0 where
  pub number : IsPolygonOf region i
  pub other : (polygon_at region i).grid ≢ grid_of region
  pub earlier : (k : ℕ) → IsPolygonOf region k → k < i → (polygon_at region k).grid ≡ grid_of region

-- the first condition that polygons fail, in the order of the variants
abbrev pub IsRegionFaultOf : List Outline → RegionFault → Type 0
IsRegionFaultOf region Count = ¬ IsPolygonCount (length region)
IsRegionFaultOf region (Grid i) = IsPolygonCount (length region) × IsFirstOtherGrid region i
