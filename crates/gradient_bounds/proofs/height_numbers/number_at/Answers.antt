use Rattle.std.proofs.Common.{to_z, pos}
use Rattle.std.specs.Int.{w128}
use Rattle.std.proofs.lemmas.Int.{to_z-of_z}
use Rattle.gradient_bounds.specs.declared.placed_term.PlacedTerm.{PlacedTerm}
use Rattle.gradient_bounds.specs.HeightSums.{dirs_of, terms_at}
use Rattle.gradient_bounds.specs.Table.{low_in}
use Rattle.gradient_bounds.proofs.Placing.{low_converted}
use Rattle.gradient_bounds.proofs.Rows.{placed_step}
use Rattle.gradient_bounds.proofs.Sums.{number_size}
use Rattle.sine_fixed.proofs.Weighing.{IsStep}
use Rattle.gradient_bounds.proofs.height_numbers.number_at.Goals as goal

abbrev blank : PlacedTerm
blank = record { place = 0; c = pos 0 }

step : (c : goal.After-from-in-loop-term) → IsStep (low_in c.args.table.now) (terms_at (dirs_of c.args.table.now) c.args.row.now) c.loop-term.term-index
    (to_z w128 c.loop-term.total-bits) c.from.result c.from-in-loop-term.result
step c =
    let low = low_converted c.args.table.now _ c.low_at.result c.from-in-loop-term.result c.requires.small c.low_at.ensures c.from-in-loop-term.ensures in
    placed_step c.args.table.now c.requires.small c.args.row.now c.loop-term.term-index blank (to_z w128 c.loop-term.total-bits) c.from.result
    c.from-in-loop-term.result c.loop-term-test.true c.requires.light c.loop-term.invariant c.from.ensures low

pub overflow_add-total : goal.overflow_add-total
overflow_add-total c =
    let s = step c in
    let factor = s.factor_fits in
    let low = s.low_fits in
    let product = s.product in
    simp to_z-of_z s.sum

pub loop-term-preserved : goal.loop-term-preserved
loop-term-preserved c =
    let s = step c in
    let factor = s.factor_fits in
    let low = s.low_fits in
    let product = s.product in
    let sum = s.sum in
    simp to_z-of_z s.is

pub returns-clause-size : goal.returns-clause-size
returns-clause-size c =
    number_size c.args.table.now c.requires.small (terms_at (dirs_of c.args.table.now) c.args.row.now) c.loop-term.term-index
    (to_z w128 c.loop-term.total-bits) c.requires.light c.loop-term.invariant
