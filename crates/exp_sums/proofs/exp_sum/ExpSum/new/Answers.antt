use Rattle.std.proofs.Common.{ap, ◌∙◌}
use Rattle.exp_sums.specs.FormalPoint.{point_of}
use Rattle.exp_sums.proofs.Kept.{kept_none, none_is_zero}
use Rattle.exp_sums.proofs.exp_sum.ExpSum.new.Goals as goal

pub invariant_of-result : goal.invariant_of-result
invariant_of-result c = rw c.new.ensures.items kept_none

pub returns : goal.returns
returns c = ap point_of c.new.ensures.items ∙ none_is_zero
