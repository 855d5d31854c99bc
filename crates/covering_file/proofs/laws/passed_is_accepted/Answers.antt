use Rattle.covering_file.proofs.Passed.{passed_is_accepted}
use Rattle.covering_file.proofs.laws.passed_is_accepted.Goals as goal

pub returns : goal.returns
returns c = passed_is_accepted
