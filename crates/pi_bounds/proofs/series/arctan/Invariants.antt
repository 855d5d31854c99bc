use Rattle.pi_bounds.proofs.Terms.{SoFar}
use Rattle.pi_bounds.proofs.series.arctan.Given as goal

abbrev pub invariant-loop-j : goal.invariant-loop-j
invariant-loop-j g l = SoFar g.S.Scale.BITS l.fn.k l.j l.power l.sum
