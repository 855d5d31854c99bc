use Rattle.exp_sums.proofs.Numbers.{others_free}
use Rattle.exp_sums.proofs.laws.other_directions_are_free.Goals as goal

pub returns : goal.returns
returns c = others_free
