use Rattle.trig_meaning.proofs.Addition.{addition_lem}
use Rattle.trig_meaning.proofs.laws.addition.Goals as goal

pub returns : goal.returns
returns c = addition_lem
