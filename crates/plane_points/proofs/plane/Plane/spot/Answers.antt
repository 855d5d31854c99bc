use Rattle.std.proofs.Common.{◌^◌, ◌≤◌, pos, sym, subst, arith}
use Rattle.std.proofs.lemmas.Int.{to_z-of_z}
use Rattle.exp_sums.specs.declared.terms.Term.{Term}
use Rattle.exp_sums.specs.Limits.{terms_weight}
use Rattle.plane_points.proofs.Sums.{factor_read, next_sum, no_term, sum_is_near}
use Rattle.plane_points.proofs.plane.Plane.spot.Goals as goal

blank : Term
blank = record { dir = record { m = pos 0; n = pos 0 }; c = pos 0 }

pub loop-term-init : goal.loop-term-init
loop-term-init c = no_term c.args.self.now c.terms-term-items.result.now

pub loop-term-preserved : goal.loop-term-preserved
unfolding blank
loop-term-preserved c =
    let ts = c.terms-term-items.result.now in
    let light : terms_weight ts ≤ 2 ^ 31 =
    subst (λ us. terms_weight us ≤ 2 ^ 31) (sym c.terms-term-items.ensures.all) c.terms-term-items.ensures.within_limits.light in
    let read = factor_read c.args.self.now ts c.loop-term.term-index blank c.loop-term-test.true light c.loop-term.spot c.loop-term.invariant in
    next_sum c.args.self.now ts c.loop-term.term-index blank c.loop-term-test.true light c.loop-term.spot c.loop-term.invariant c.unit.result c.plus-spot.result
    c.unit.ensures.unit c.unit.ensures.size (simp to_z-of_z at c.plus-spot.ensures.x) (simp to_z-of_z at c.plus-spot.ensures.y)

pub returns-clause-spot : goal.returns-clause-spot
returns-clause-spot c =
    sum_is_near c.args.self.now c.args.z.now c.terms-term-items.result.now c.loop-term.term-index c.loop-term.spot c.terms-term-items.ensures.all
    c.loop-term.invariant (omega (arith, c.loop-term-test.false))
