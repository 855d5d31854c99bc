use Rattle.unfolding.proofs.Mirrors.{mirrored_from_start, mirrored_from_end}
use Rattle.unfolding.proofs.laws.each_mirrors_the_one_before.Goals as goal

pub returns : goal.returns
returns c = λ w k _ h. (mirrored_from_start w k h, mirrored_from_end w k h)
