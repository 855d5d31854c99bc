use Rattle.std.proofs.Common.{to_z, pos}
use Rattle.std.specs.Int.{w128}
use Rattle.std.proofs.lemmas.Int.{to_z-of_z}
use Rattle.exp_sums.specs.declared.terms.Term.{Term}
use Rattle.gradient_bounds.specs.Table.{low_in}
use Rattle.gradient_bounds.proofs.Sums.{step_at, number_size}
use Rattle.sine_fixed.proofs.Weighing.{IsStep}
use Rattle.gradient_bounds.proofs.height_numbers.number_of.Goals as goal

blank : Term
blank = record { dir = record { m = pos 0; n = pos 0 }; c = pos 0 }

step : (c : goal.After-low_of) → IsStep (low_in c.args.table.now) c.args.terms.now c.loop-term.term-index
    (to_z w128 c.loop-term.total-bits) c.from.result c.low_of.result
unfolding blank
step c =
    step_at c.args.table.now c.requires.small c.args.terms.now c.loop-term.term-index blank (to_z w128 c.loop-term.total-bits) c.from.result c.low_of.result
    c.loop-term-test.true c.requires.light c.loop-term.invariant c.from.ensures c.low_of.ensures

pub overflow_mul-total : goal.overflow_mul-total
overflow_mul-total c =
    let s = step c in
    let factor = s.factor_fits in
    let low = s.low_fits in
    simp to_z-of_z s.product

pub overflow_add-total : goal.overflow_add-total
overflow_add-total c =
    let s = step c in
    let factor = s.factor_fits in
    let low = s.low_fits in
    let product = s.product in
    simp to_z-of_z s.sum

pub loop-term-preserved : goal.loop-term-preserved
loop-term-preserved c =
    let s = step c in
    let factor = s.factor_fits in
    let low = s.low_fits in
    let product = s.product in
    let sum = s.sum in
    simp to_z-of_z s.is

pub returns-clause-size : goal.returns-clause-size
returns-clause-size c =
    number_size c.args.table.now c.requires.small c.args.terms.now c.loop-term.term-index
    (to_z w128 c.loop-term.total-bits) c.requires.light c.loop-term.invariant
