use Rattle.gradient_bounds.proofs.Boxes.{clear_gives_corridor_lem}
use Rattle.gradient_bounds.proofs.laws.clear_gives_corridor.Goals as goal

pub returns : goal.returns
returns c = clear_gives_corridor_lem
