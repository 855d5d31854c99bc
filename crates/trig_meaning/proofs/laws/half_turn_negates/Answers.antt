use Rattle.trig_meaning.proofs.Pieces.{half_turn_negates_lem}
use Rattle.trig_meaning.proofs.laws.half_turn_negates.Goals as goal

pub returns : goal.returns
returns c = half_turn_negates_lem
