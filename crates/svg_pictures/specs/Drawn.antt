-- Triangles as they are drawn, each by the three points of its corners.
use Rattle.std.specs.Prelude.{ℕ, ◌==◌, List, [], ◌∷◌, if◌then◌else◌}
use Rattle.std.specs.List.{flat_map}
use Rattle.svg_pictures.specs.declared.picture_point.PicturePoint.{PicturePoint}
use Rattle.svg_pictures.specs.declared.drawn.DrawnTriangle.{DrawnTriangle}

-- the point of corner 1, 2 or 3
abbrev pub point_at : DrawnTriangle → ℕ → PicturePoint
point_at t c = if c == 1 then t.first else if c == 2 then t.second else t.third

-- the points of all triangles
abbrev pub points_of : List DrawnTriangle → List PicturePoint
points_of ts = flat_map (λ t. t.first ∷ t.second ∷ t.third ∷ []) ts
