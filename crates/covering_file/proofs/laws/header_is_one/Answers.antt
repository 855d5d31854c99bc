use Rattle.covering_file.proofs.HeaderLaws.{header_is_one}
use Rattle.covering_file.proofs.laws.header_is_one.Goals as goal

pub returns : goal.returns
returns c = header_is_one
