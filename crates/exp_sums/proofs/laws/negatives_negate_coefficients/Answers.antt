use Rattle.exp_sums.proofs.SamePoint.{coefficient-negative}
use Rattle.exp_sums.proofs.laws.negatives_negate_coefficients.Goals as goal

pub returns : goal.returns
returns c = coefficient-negative
