use Rattle.std.proofs.Common.{negsuc, pos, arith}
use Rattle.exp_sums.proofs.Limits.{limits_added}
use Rattle.exp_sums.proofs.tests.keeps_terms_in_order_and_drops_zeros.Goals as goal

pub add_dir-requires : goal.add_dir-requires
add_dir-requires g c = limits_added c.in_ok-sum.sum (negsuc 1) (record { m = pos 1; n = negsuc 0 }) c.terms-2.ensures.within_limits
    (record { m = omega arith; n = omega arith }) (omega (arith, c.in_ok-sum.ensures.light))
