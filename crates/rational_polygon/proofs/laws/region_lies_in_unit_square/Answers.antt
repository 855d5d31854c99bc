use Rattle.rational_polygon.proofs.Regions.{region_in_unit_square}
use Rattle.rational_polygon.proofs.laws.region_lies_in_unit_square.Goals as goal

pub returns : goal.returns
returns c = region_in_unit_square
