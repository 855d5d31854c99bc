use Rattle.std.proofs.Common.{◌≡◌, take}
use Rattle.unfolding.specs.Kept.{triangle_of}
use Rattle.unfolding.proofs.along.centre_after.Given as goal

abbrev pub invariant-loop-edge : goal.invariant-loop-edge
invariant-loop-edge l = l.triangle ≡ triangle_of (take l.edge-index l.letters)
