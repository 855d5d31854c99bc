use Rattle.gradient_bounds.proofs.Boxes.{clear_with_less_lem}
use Rattle.gradient_bounds.proofs.laws.clear_with_less.Goals as goal

pub returns : goal.returns
returns c = clear_with_less_lem
