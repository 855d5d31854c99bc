-- How the points of bounces are computed from those of the corners. No public clause speaks of this.
use Rattle.std.specs.Prelude.{ℕ, ◌+◌, ◌-◌, ◌^◌, ℤ, pos, ◌+ℤ◌, ◌*ℤ◌, List, ◌++◌, map, codes}
use Rattle.std.specs.Int.{int_div_euclid}
use Rattle.unfolding.specs.Triangle.{next_corner}
use Rattle.bounce_path.specs.declared.bounce.Bounce.{Bounce}
use Rattle.svg_pictures.specs.declared.picture_point.PicturePoint.{PicturePoint}
use Rattle.svg_pictures.specs.declared.drawn.DrawnTriangle.{DrawnTriangle}
use Rattle.svg_pictures.specs.Drawn.{point_at}
use Rattle.svg_pictures.specs.PathPicture.{point_text}

-- the number so many of 2^41 parts of the way from `start` to `end`, rounded
abbrev pub between : ℤ → ℤ → ℕ → ℤ
between start end share = int_div_euclid (start *ℤ pos (2 ^ 41 - share) +ℤ end *ℤ pos share +ℤ pos (2 ^ 40)) (pos (2 ^ 41))

-- the point of a bounce on an edge of a drawn triangle
abbrev pub point_on : DrawnTriangle → Bounce → PicturePoint
point_on t b =
    let c = next_corner b.edge in
    let start = point_at t c in
    let end = point_at t (next_corner c) in
    record { across = between start.across end.across (b.low + b.high); down = between start.down end.down (b.low + b.high) }

abbrev pub drawn_bounces : DrawnTriangle → List Bounce → List PicturePoint
drawn_bounces t bs = map (point_on t) bs

-- a point that follows another
abbrev pub next_point_text : DrawnTriangle → Bounce → List ℕ
next_point_text t b = codes " " ++ point_text (point_on t b)
