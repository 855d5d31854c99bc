use Rattle.exp_sums.proofs.SamePoint.{coefficient-conj}
use Rattle.exp_sums.proofs.laws.conjugates_negate_directions.Goals as goal

pub returns : goal.returns
returns c = coefficient-conj
