use Rattle.trig_meaning.proofs.Pieces.{pieces_agree_lem}
use Rattle.trig_meaning.proofs.laws.pieces_agree.Goals as goal

pub returns : goal.returns
returns c = pieces_agree_lem
