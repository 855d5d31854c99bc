use Rattle.exp_sums.specs.Limits.{IsWithin}
use Rattle.exp_sums.proofs.tests.sum_of.Given as goal

-- the terms so far lie near
abbrev pub invariant-loop-m : goal.invariant-loop-m
invariant-loop-m g l = IsWithin 100 l.sum
