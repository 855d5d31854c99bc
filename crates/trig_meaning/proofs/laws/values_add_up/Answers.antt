use Rattle.trig_meaning.proofs.Values.{values_add_up_lem}
use Rattle.trig_meaning.proofs.laws.values_add_up.Goals as goal

pub returns : goal.returns
returns c = values_add_up_lem
