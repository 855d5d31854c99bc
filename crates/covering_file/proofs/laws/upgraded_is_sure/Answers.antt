use Rattle.covering_file.proofs.Upgraded.{upgraded_is_sure}
use Rattle.covering_file.proofs.laws.upgraded_is_sure.Goals as goal

pub returns : goal.returns
returns c = upgraded_is_sure
