use Rattle.corner_bounds.proofs.Boxes.{corner_gives_corridor_lem}
use Rattle.corner_bounds.proofs.laws.corner_gives_corridor.Goals as goal

pub returns : goal.returns
returns c = corner_gives_corridor_lem
