use Rattle.unfolding.proofs.Mirrors.{mirror-kept}
use Rattle.unfolding.proofs.laws.mirrors_keep_their_edges.Goals as goal

pub returns : goal.returns
returns c = mirror-kept
