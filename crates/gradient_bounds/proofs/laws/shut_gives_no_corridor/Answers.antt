use Rattle.gradient_bounds.proofs.Boxes.{shut_gives_no_corridor_lem}
use Rattle.gradient_bounds.proofs.laws.shut_gives_no_corridor.Goals as goal

pub returns : goal.returns
returns c = shut_gives_no_corridor_lem
