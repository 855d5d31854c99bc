use Rattle.unfolding.proofs.Mirrors.{mirror-mirror}
use Rattle.unfolding.proofs.laws.mirrors_undo_themselves.Goals as goal

pub returns : goal.returns
returns c = λ d _ z. mirror-mirror d z
