use Rattle.covering_file.proofs.OneFile.{accepted_is_one}
use Rattle.covering_file.proofs.laws.accepted_is_one.Goals as goal

pub returns : goal.returns
returns c = accepted_is_one
