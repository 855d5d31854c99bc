use Rattle.trig_meaning.proofs.Pieces.{whole_turns_keep_lem}
use Rattle.trig_meaning.proofs.laws.whole_turns_keep.Goals as goal

pub returns : goal.returns
returns c = whole_turns_keep_lem
