use Rattle.coverer.proofs.Sure.{complete_is_not_refused_lem}
use Rattle.coverer.proofs.laws.complete_is_not_refused.Goals as goal

pub returns : goal.returns
returns c = complete_is_not_refused_lem
