use Rattle.rational_polygon.proofs.Halves.{child_within}
use Rattle.rational_polygon.proofs.laws.children_lie_within.Goals as goal

pub returns : goal.returns
returns c = child_within
