use Rattle.exp_sums.proofs.SamePoint.{coefficient-+ₚ}
use Rattle.exp_sums.proofs.laws.sums_add_coefficients.Goals as goal

pub returns : goal.returns
returns c = coefficient-+ₚ
