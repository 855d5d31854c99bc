use Rattle.trig_meaning.proofs.Lipschitz.{sine_is_lipschitz_lem}
use Rattle.trig_meaning.proofs.laws.sine_is_lipschitz.Goals as goal

pub returns : goal.returns
returns c = sine_is_lipschitz_lem
