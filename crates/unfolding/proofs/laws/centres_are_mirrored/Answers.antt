use Rattle.unfolding.proofs.Bounds.{centre_law}
use Rattle.unfolding.proofs.laws.centres_are_mirrored.Goals as goal

pub returns : goal.returns
returns c = centre_law
