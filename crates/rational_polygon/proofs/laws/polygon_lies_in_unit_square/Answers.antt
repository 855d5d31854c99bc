use Rattle.rational_polygon.proofs.Grid.{in_unit_square}
use Rattle.rational_polygon.proofs.laws.polygon_lies_in_unit_square.Goals as goal

pub returns : goal.returns
returns c = in_unit_square
