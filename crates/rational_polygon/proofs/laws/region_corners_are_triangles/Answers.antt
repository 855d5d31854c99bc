use Rattle.rational_polygon.proofs.Regions.{region_corner_is_point}
use Rattle.rational_polygon.proofs.laws.region_corners_are_triangles.Goals as goal

pub returns : goal.returns
returns c = region_corner_is_point
