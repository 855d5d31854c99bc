use Rattle.covering_file.proofs.Sure.{sure_is_not_refused}
use Rattle.covering_file.proofs.laws.sure_is_not_refused.Goals as goal

pub returns : goal.returns
returns c = sure_is_not_refused
