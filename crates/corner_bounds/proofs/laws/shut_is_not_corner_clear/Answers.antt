use Rattle.corner_bounds.proofs.Boxes.{shut_is_not_corner_clear_lem}
use Rattle.corner_bounds.proofs.laws.shut_is_not_corner_clear.Goals as goal

pub returns : goal.returns
returns c = shut_is_not_corner_clear_lem
