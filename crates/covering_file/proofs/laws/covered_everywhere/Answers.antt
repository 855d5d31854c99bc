use Rattle.covering_file.proofs.Covers.{covered_everywhere}
use Rattle.covering_file.proofs.laws.covered_everywhere.Goals as goal

pub returns : goal.returns
returns c = covered_everywhere
