use Rattle.defining_functions.proofs.Differences.{numbers_linear}
use Rattle.defining_functions.proofs.laws.numbers_add_up.Goals as goal

pub returns : goal.returns
returns c = numbers_linear
