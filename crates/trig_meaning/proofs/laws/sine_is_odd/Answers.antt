use Rattle.trig_meaning.proofs.Pieces.{sine_is_odd_lem}
use Rattle.trig_meaning.proofs.laws.sine_is_odd.Goals as goal

pub returns : goal.returns
returns c = sine_is_odd_lem
