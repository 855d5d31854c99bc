use Rattle.gradient_bounds.proofs.Within.{shut_is_not_clear_lem}
use Rattle.gradient_bounds.proofs.laws.shut_is_not_clear.Goals as goal

pub returns : goal.returns
returns c = shut_is_not_clear_lem
