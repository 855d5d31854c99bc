use Rattle.corner_bounds.proofs.Boxes.{corner_clear_with_less_lem}
use Rattle.corner_bounds.proofs.laws.corner_clear_with_less.Goals as goal

pub returns : goal.returns
returns c = corner_clear_with_less_lem
