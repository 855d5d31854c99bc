use Rattle.rational_polygon.proofs.Fan.{point_is_triangle}
use Rattle.rational_polygon.proofs.laws.points_are_triangles.Goals as goal

pub returns : goal.returns
returns c = point_is_triangle
