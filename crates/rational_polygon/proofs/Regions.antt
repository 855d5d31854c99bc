-- What holds of polygons, of regions: a point of a region is one of some polygon, and a box that is apart is apart from it.
use Rattle.std.proofs.Common.{◌≡◌, refl, sym, subst, ℕ, zero, suc, ◌-◌, ◌<◌, ◌↔◌, List, [], ◌∷◌, length, slice_index_or, arith}
use Rattle.std.specs.Prelude.{All}
use Rattle.std.proofs.lemmas.List.{get_or_default}
use Rattle.rational_polygon.specs.Point.{Point, IsTriangle}
use Rattle.rational_polygon.specs.Square.{Square, unit_square, IsInBox}
use Rattle.rational_polygon.specs.Outline.{Outline, IsNumber, corner, IsPolygon, IsInPolygon}
use Rattle.rational_polygon.specs.Apart.{IsApart}
use Rattle.rational_polygon.specs.Region.{IsRegion, IsInRegion, IsApartFromRegion, polygon_at, IsPolygonOf}
use Rattle.rational_polygon.proofs.Fan.{point_is_triangle}
use Rattle.rational_polygon.proofs.Grid.{in_unit_square, corner_is_point}
use Rattle.rational_polygon.proofs.Numbers.{at_found}
use Rattle.rational_polygon.proofs.Separation.{apart_has_none}

-- what holds of all polygons of a region holds of that of a point
pub region_in_unit_square : (region : List Outline) (p : Point) → IsRegion region → IsInRegion region p → IsInBox unit_square p
region_in_unit_square region p is within =
    in_unit_square within.1 p (at_found IsPolygon (λ o. IsInPolygon o p) region is.polygons within) within.4

pub apart_region_has_none : (box : Square) (region : List Outline) (p : Point) → IsApartFromRegion box region → IsInRegion region p → IsInBox box p → ⊥
apart_region_has_none box region p apart within in_box =
    apart_has_none box within.1 p (at_found (IsApart box) (λ o. IsInPolygon o p) region apart within) within.4 in_box

pub region_point_is_triangle : (region : List Outline) (p : Point) → IsRegion region → IsInRegion region p → IsTriangle p
region_point_is_triangle region p is within =
    point_is_triangle within.1 p (at_found IsPolygon (λ o. IsInPolygon o p) region is.polygons within) within.4

-- a corner of polygon i
pub region_corner_is_point : (region : List Outline) (i k : ℕ) → IsRegion region → IsPolygonOf region i → IsNumber (polygon_at region i) k
    → IsTriangle (corner (polygon_at region i) k) × IsInRegion region (corner (polygon_at region i) k)
region_corner_is_point region i k is number edge =
    let o = polygon_at region i in
    let none : Outline = record { grid = 0; corners = [] } in
    let within : i - 1 < length region = omega (arith, number) in
    let polygon : IsPolygon o = is.polygons (i - 1) none within in
    let point = corner_is_point o k polygon edge in
    (point.0, (i - 1, o, within, get_or_default region (i - 1) o none within, point.1))

-- what holds of one element holds of a list of it alone
all_of_one : {X : Type 0} (P : X → Type 0) (x : X) → P x → All P (x ∷ [])
all_of_one P x h zero d within = h
all_of_one P x h (suc k) d within = absurd (omega (arith, within))

any_of_one : {X : Type 0} (P : X → Type 0) (x : X) (k : ℕ) (y : X) → k < length (x ∷ []) → slice_index_or (x ∷ []) k y ≡ y → P y → P x
any_of_one P x zero y within is h = subst P (sym is) h
any_of_one P x (suc k) y within is h = absurd (omega (arith, within))

pub one_is_region : (outline : Outline) (p : Point) (box : Square) → IsPolygon outline
    → IsRegion (outline ∷ []) × (IsInRegion (outline ∷ []) p ↔ IsInPolygon outline p) × (IsApartFromRegion box (outline ∷ []) ↔ IsApart box outline)
one_is_region outline p box polygon = (
  record {
    count = (omega arith, omega arith);
    polygons = all_of_one IsPolygon outline polygon;
    one_grid = all_of_one (λ o. o.grid ≡ outline.grid) outline refl;
  },
  (λ found. any_of_one (λ o. IsInPolygon o p) outline found.0 found.1 found.2 found.3 found.4, λ h. (0, outline, omega arith, refl, h)),
  (λ apart. apart 0 outline (omega arith), all_of_one (IsApart box) outline),
)
