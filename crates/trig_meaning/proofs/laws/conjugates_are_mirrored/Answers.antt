use Rattle.trig_meaning.proofs.Coordinates.{conjugates_are_mirrored_lem}
use Rattle.trig_meaning.proofs.laws.conjugates_are_mirrored.Goals as goal

pub returns : goal.returns
returns c = conjugates_are_mirrored_lem
