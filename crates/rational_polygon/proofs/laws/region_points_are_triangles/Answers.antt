use Rattle.rational_polygon.proofs.Regions.{region_point_is_triangle}
use Rattle.rational_polygon.proofs.laws.region_points_are_triangles.Goals as goal

pub returns : goal.returns
returns c = region_point_is_triangle
