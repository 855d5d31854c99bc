use Rattle.gradient_bounds.proofs.Within.{shut_goes_down_lem, shut_goes_to_children}
use Rattle.gradient_bounds.proofs.laws.shut_goes_down.Goals as goal

pub returns-clause-within : goal.returns-clause-within
returns-clause-within c = shut_goes_down_lem

pub returns-clause-children : goal.returns-clause-children
returns-clause-children c = shut_goes_to_children
