use Rattle.plane_points.proofs.Sums.{IsSumOf}
use Rattle.plane_points.proofs.plane.Plane.spot.Given as goal

-- the sums over the terms so far
abbrev pub invariant-loop-term : goal.invariant-loop-term
invariant-loop-term l = IsSumOf l.self l.term-items l.term-index l.spot
