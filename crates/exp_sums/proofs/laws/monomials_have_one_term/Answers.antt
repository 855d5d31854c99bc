use Rattle.exp_sums.proofs.SamePoint.{coefficient-monomial}
use Rattle.exp_sums.proofs.laws.monomials_have_one_term.Goals as goal

pub returns : goal.returns
returns c = coefficient-monomial
