use Rattle.exp_sums.proofs.SamePoint.{coefficient-point_of}
use Rattle.exp_sums.proofs.laws.lists_add_up.Goals as goal

pub returns : goal.returns
returns c = coefficient-point_of
