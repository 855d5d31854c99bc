use Rattle.bounce_path.proofs.Crossed.{AreFirst}
use Rattle.bounce_path.proofs.crossing.crossings.Given as goal

-- the crossings of the edges so far
abbrev pub invariant-loop-place : goal.invariant-loop-place
invariant-loop-place l = AreFirst l.prepared.word l.prepared.point l.place l.crossings.items
