use Rattle.rational_polygon.proofs.Halves.{some_child}
use Rattle.rational_polygon.proofs.laws.children_cover.Goals as goal

pub returns : goal.returns
returns c = some_child
