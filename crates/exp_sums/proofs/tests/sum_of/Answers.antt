use Rattle.std.proofs.Common.{subst, sym}
use Rattle.exp_sums.specs.Limits.{IsWithin}
use Rattle.exp_sums.proofs.Within.{IsWithin-zero_point}
use Rattle.exp_sums.proofs.tests.sum_of.Goals as goal

pub loop-m-init : goal.loop-m-init
loop-m-init g c = subst (IsWithin 100) (sym c.new-sum.ensures) (IsWithin-zero_point 100)
