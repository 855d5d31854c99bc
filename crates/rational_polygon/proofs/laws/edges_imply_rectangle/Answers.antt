use Rattle.rational_polygon.proofs.Fan.{in_rectangle}
use Rattle.rational_polygon.proofs.laws.edges_imply_rectangle.Goals as goal

pub returns : goal.returns
returns c = in_rectangle
