use Rattle.cover_merge.proofs.Differing.{SameCorners}
use Rattle.cover_merge.proofs.regions.first_other_corner.Given as goal

abbrev pub invariant-loop-k : goal.invariant-loop-k
invariant-loop-k l = SameCorners l.corners l.others l.k
