use Rattle.std.proofs.Common.{◌≤◌, rules, arith, sym, subst}
use Rattle.std.specs.Int.{w32, w64}
use mir.Val.{SFits}
use Rattle.std.proofs.lemmas.Int.{ints, to_z-of_z}
use Rattle.exp_sums.specs.FormalPoint.{monomial}
use Rattle.exp_sums.specs.Limits.{IsNear, IsWithin, IsWithinLimits, weight, greatest_exponent}
use Rattle.exp_sums.proofs.Within.{IsWithin-weaker, IsWithin-monomial, IsWithin-+ₚ}
use Rattle.exp_sums.proofs.Limits.{limits_added}
use Rattle.exp_sums.proofs.tests.add_small.Goals as goal

pub add_dir-requires : goal.add_dir-requires
add_dir-requires g c =
    let sum = c.args.sum.now in
    let dir = c.args.dir in
    let m_fits : SFits w32 dir.m = search rules in
    let n_fits : SFits w32 dir.n = search rules in
    let c_fits : SFits w64 c.args.c = search rules in
    let m = rw (to_z-of_z w32 dir.m m_fits) at c.unsigned_abs.ensures.value in
    let n = rw (to_z-of_z w32 dir.n n_fits) at c.unsigned_abs-2.ensures.value in
    let size = rw (to_z-of_z w64 c.args.c c_fits) at c.unsigned_abs-3.ensures.value in
    let near : IsNear greatest_exponent dir = record { m = omega (arith, m); n = omega (arith, n) } in
    let light : weight sum ≤ 100 = omega (arith, ints, c.weight.ensures) in
    let limits : IsWithinLimits sum = record { near = IsWithin-weaker 100 greatest_exponent sum (omega arith) c.requires; light = omega (arith, light) } in
    rw (to_z-of_z w64 c.args.c c_fits) (limits_added sum c.args.c dir limits near (omega (arith, light, size)))

pub returns : goal.returns
returns g c =
    let dir = c.args.dir in
    let m_fits : SFits w32 dir.m = search rules in
    let n_fits : SFits w32 dir.n = search rules in
    let m = rw (to_z-of_z w32 dir.m m_fits) at c.unsigned_abs.ensures.value in
    let n = rw (to_z-of_z w32 dir.n n_fits) at c.unsigned_abs-2.ensures.value in
    let near : IsNear 100 dir = record { m = omega (arith, m); n = omega (arith, n) } in
    subst (IsWithin 100) (sym c.in_ok-add_dir.ensures.ok) (IsWithin-+ₚ 100 c.args.sum.now (monomial _ dir) c.requires (IsWithin-monomial 100 _ dir near))
