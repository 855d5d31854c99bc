use Rattle.covering_file.proofs.HeaderLaws.{header_never_offends}
use Rattle.covering_file.proofs.laws.header_never_offends.Goals as goal

pub returns : goal.returns
returns c = header_never_offends
