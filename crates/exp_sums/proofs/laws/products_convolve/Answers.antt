use Rattle.exp_sums.proofs.SamePoint.{coefficient-*ₚ}
use Rattle.exp_sums.proofs.laws.products_convolve.Goals as goal

pub returns : goal.returns
returns c = coefficient-*ₚ
