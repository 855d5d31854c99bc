use Rattle.unfolding.specs.Kept.{AreTrianglesOf}
use Rattle.unfolding.proofs.walk.triangles_along.Given as goal

abbrev pub invariant-loop-k : goal.invariant-loop-k
invariant-loop-k l = AreTrianglesOf l.letters l.k l.triangles.items
