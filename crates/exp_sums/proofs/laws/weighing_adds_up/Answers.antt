use Rattle.exp_sums.proofs.Numbers.{weighing_linear}
use Rattle.exp_sums.proofs.laws.weighing_adds_up.Goals as goal

pub returns : goal.returns
returns c = weighing_linear
