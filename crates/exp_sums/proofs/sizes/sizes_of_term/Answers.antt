use Rattle.std.proofs.Common.{◌≤◌, ◌^◌, rules, arith}
use Rattle.exp_sums.proofs.Bend.{bend_small}
use Rattle.exp_sums.proofs.sizes.sizes_of_term.Goals as goal

pub overflow_mul-result-4 : goal.overflow_mul-result-4
overflow_mul-result-4 c =
    let small : c.unsigned_abs-c.result ≤ 2 ^ 31 = search rules in
    let near : c.from-m.result ≤ 4096 = search rules in
    let near' : c.from-n.result ≤ 4096 = search rules in
    omega (arith, bend_small c.unsigned_abs-c.result c.from-m.result c.from-n.result small near near')
