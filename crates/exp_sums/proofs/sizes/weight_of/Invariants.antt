use Rattle.std.proofs.Common.{◌≡◌, take, pos}
use Rattle.exp_sums.specs.Limits.{terms_weight}
use Rattle.exp_sums.proofs.sizes.weight_of.Given as goal

-- the weight of the terms so far
abbrev pub invariant-loop-term : goal.invariant-loop-term
invariant-loop-term l = l.weight ≡ pos (terms_weight (take l.term-index l.terms))
