use Rattle.mcb_ends.proofs.OneNext.{IsNext-unique}
use Rattle.mcb_ends.proofs.laws.next_is_unique.Goals as goal

pub returns : goal.returns
returns c = IsNext-unique
