use Rattle.defining_functions.proofs.Differences.{walk_linear}
use Rattle.defining_functions.proofs.laws.walk_adds_up.Goals as goal

pub returns : goal.returns
returns c = walk_linear
