use Rattle.exp_sums.specs.FormalPoint.{terms_canonical}
use Rattle.exp_sums.proofs.laws.terms_are_canonical.Goals as goal

pub returns : goal.returns
returns c = terms_canonical
