use Rattle.rational_polygon.proofs.Grid.{corner_is_point}
use Rattle.rational_polygon.proofs.laws.corners_are_triangles.Goals as goal

pub returns : goal.returns
returns c = corner_is_point
