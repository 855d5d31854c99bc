use Rattle.std.proofs.Common.{◌≡◌, take, pos}
use Rattle.exp_sums.specs.Reach.{terms_reach}
use Rattle.exp_sums.proofs.sizes.reach_of.Given as goal

-- the reach of the terms so far
abbrev pub invariant-loop-term : goal.invariant-loop-term
invariant-loop-term l = l.reach ≡ pos (terms_reach (take l.term-index l.terms))
