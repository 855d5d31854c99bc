use Rattle.coverer.proofs.Sure.{complete_is_sure_lem}
use Rattle.coverer.proofs.laws.complete_is_sure.Goals as goal

pub returns : goal.returns
returns c = complete_is_sure_lem
