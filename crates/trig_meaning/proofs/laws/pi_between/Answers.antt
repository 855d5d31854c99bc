use Rattle.trig_meaning.proofs.PiBetween.{pi_between_lem}
use Rattle.trig_meaning.proofs.laws.pi_between.Goals as goal

pub returns : goal.returns
returns c = pi_between_lem
