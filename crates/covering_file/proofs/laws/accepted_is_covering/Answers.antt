use Rattle.covering_file.proofs.Accepted.{accepted_is_covering}
use Rattle.covering_file.proofs.laws.accepted_is_covering.Goals as goal

pub returns : goal.returns
returns c = accepted_is_covering
