-- What follows from the definitions alone.

use Rattle.std.specs.Prelude.{ℕ, ◌<◌, ◌↔◌, List, [], ◌∷◌}
use Rattle.rational_polygon.specs.Point.{Point, IsTriangle}
use Rattle.rational_polygon.specs.Square.{Square, unit_square, child, IsInBox}
use Rattle.rational_polygon.specs.Outline.{Outline, IsNumber, corner, IsPolygon, IsInRectangle, IsOnOrLeftOfEdges, IsInPolygon}
use Rattle.rational_polygon.specs.Apart.{IsApart}
use Rattle.rational_polygon.specs.Region.{IsRegion, IsInRegion, IsApartFromRegion, polygon_at, IsPolygonOf}

-- every point of a polygon lies in the unit square
abbrev pub PolygonLiesInUnitSquare : Type 0
PolygonLiesInUnitSquare = (outline : Outline) (p : Point) → IsPolygon outline → IsInPolygon outline p → IsInBox unit_square p

-- what is on or left of every edge of a polygon lies in the bounding rectangle, so the edges alone make the polygon
abbrev pub EdgesImplyRectangle : Type 0
EdgesImplyRectangle = (outline : Outline) (p : Point) → IsPolygon outline → IsOnOrLeftOfEdges outline p → IsInRectangle outline p

-- a box that is apart from a polygon has no point of it
abbrev pub ApartHoldsNone : Type 0
ApartHoldsNone = (box : Square) (outline : Outline) (p : Point) → IsApart box outline → IsInPolygon outline p → IsInBox box p → ⊥

-- a point of a box lies in one of its four children
abbrev pub ChildrenCover : Type 0
ChildrenCover = (box : Square) (p : Point) → IsInBox box p → (c : ℕ) × (c < 4) × IsInBox (child box c) p

-- each child lies in its box
abbrev pub ChildrenLieWithin : Type 0
ChildrenLieWithin = (box : Square) (p : Point) (c : ℕ) → c < 4 → IsInBox (child box c) p → IsInBox box p

-- each corner of a polygon is a triangle, and a point of the polygon
abbrev pub CornersAreTriangles : Type 0
CornersAreTriangles = (outline : Outline) (k : ℕ) → IsPolygon outline → IsNumber outline k → IsTriangle (corner outline k)
    × IsInPolygon outline (corner outline k)

-- every point of a polygon is a triangle
abbrev pub PointsAreTriangles : Type 0
PointsAreTriangles = (outline : Outline) (p : Point) → IsPolygon outline → IsInPolygon outline p → IsTriangle p

-- ---- regions

-- every point of a region lies in the unit square
abbrev pub RegionLiesInUnitSquare : Type 0
RegionLiesInUnitSquare = (region : List Outline) (p : Point) → IsRegion region → IsInRegion region p → IsInBox unit_square p

-- a box that is apart from a region has no point of it
abbrev pub ApartRegionHoldsNone : Type 0
ApartRegionHoldsNone = (box : Square) (region : List Outline) (p : Point) → IsApartFromRegion box region → IsInRegion region p → IsInBox box p → ⊥

-- each corner of a region's polygons is a triangle, and a point of the region
abbrev pub RegionCornersAreTriangles : Type 0
RegionCornersAreTriangles = (region : List Outline) (i k : ℕ) → IsRegion region → IsPolygonOf region i → IsNumber (polygon_at region i) k
    → IsTriangle (corner (polygon_at region i) k) × IsInRegion region (corner (polygon_at region i) k)

-- every point of a region is a triangle
abbrev pub RegionPointsAreTriangles : Type 0
RegionPointsAreTriangles = (region : List Outline) (p : Point) → IsRegion region → IsInRegion region p → IsTriangle p

-- one polygon is a region with the same points, and the same boxes are apart from it
abbrev pub OnePolygonIsRegion : Type 0
OnePolygonIsRegion = (outline : Outline) (p : Point) (box : Square) → IsPolygon outline
    → IsRegion (outline ∷ []) × (IsInRegion (outline ∷ []) p ↔ IsInPolygon outline p) × (IsApartFromRegion box (outline ∷ []) ↔ IsApart box outline)
