use Rattle.covering_file.proofs.HeaderLaws.{no_header_prefix}
use Rattle.covering_file.proofs.laws.no_header_prefix.Goals as goal

pub returns : goal.returns
returns c = no_header_prefix
