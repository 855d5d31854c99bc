use Rattle.mcb_ends.proofs.OneNext.{IsNext-exists}
use Rattle.mcb_ends.proofs.laws.next_exists.Goals as goal

pub returns : goal.returns
returns c = IsNext-exists
