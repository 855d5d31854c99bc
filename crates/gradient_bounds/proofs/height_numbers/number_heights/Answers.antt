use Rattle.std.proofs.Common.{◌+◌, ◌<◌, FitsSigned, length, slice_index_or, arith}
use Rattle.std.specs.Int.{w128}
use Rattle.std.proofs.lemmas.Int.{to_z-of_z}
use Rattle.defining_functions.specs.Heights.{upper_height, lower_height}
use Rattle.defining_functions.specs.declared.shared_end.SharedEnd.TheVariants.{Upper}
use Rattle.gradient_bounds.proofs.Numbering.{next_number}
use Rattle.sine_fixed.proofs.Turning.{fits_128}
use Rattle.gradient_bounds.proofs.Stepping.{way_of}
use Rattle.gradient_bounds.proofs.height_numbers.number_heights.Goals as goal

pub overflow_sub-way : goal.overflow_sub-way
overflow_sub-way c =
    let below : c.loop-i.i < length c.args.functions.now = omega (arith, c.loop-i-test.true, c.letters-i-end.ensures.count) in
    let s = slice_index_or c.args.steps.now c.loop-i.i (record { shared = Upper; plus = 0; minus = 0 }) in
    let way = way_of c.args.functions.now c.args.table.now c.requires.steps.0 c.args.forms.now c.loop-i.i s
    (c.requires.steps.1.each.each c.loop-i.i _ below) c.requires.steps.2 in
    let plus = way.plus_fits in
    let minus = way.minus_fits in
    simp to_z-of_z way.fits

pub next_ends-ends-requires-clause-way : goal.next_ends-ends-requires-clause-way
next_ends-ends-requires-clause-way c =
    let below : c.loop-i.i < length c.args.functions.now = omega (arith, c.loop-i-test.true, c.letters-i-end.ensures.count) in
    let s = slice_index_or c.args.steps.now c.loop-i.i (record { shared = Upper; plus = 0; minus = 0 }) in
    let way = way_of c.args.functions.now c.args.table.now c.requires.steps.0 c.args.forms.now c.loop-i.i s
    (c.requires.steps.1.each.each c.loop-i.i _ below) c.requires.steps.2 in
    let plus = way.plus_fits in
    let minus = way.minus_fits in
    let fits = way.fits in
    simp to_z-of_z way.is

pub loop-i-preserved : goal.loop-i-preserved
loop-i-preserved c =
    let w = c.args.functions.now in
    let table = c.args.table.now in
    let i = c.loop-i.i in
    let ends = c.next_ends-ends.ensures in
    let upper_fits : FitsSigned w128 c.next_ends-ends.result.upper = fits_128 c.next_ends-ends.result.upper (omega (arith, ends.upper.small)) in
    let lower_fits : FitsSigned w128 c.next_ends-ends.result.lower = fits_128 c.next_ends-ends.result.lower (omega (arith, ends.lower.small)) in
    let below : i < length c.loop-i.uppers = omega
    (arith, c.loop-i-test.true, c.letters-i-end.ensures.count, c.requires.uppers, c.loop-i.auto.uppers) in
    let below' : i < length c.loop-i.lowers = omega
    (arith, c.loop-i-test.true, c.letters-i-end.ensures.count, c.requires.lowers, c.loop-i.auto.lowers) in
    record {
      before = λ _. ends;
      small = ends.upper.small;
      uppers = simp to_z-of_z
          (next_number w table (λ j v. upper_height v w (j + 1)) c.loop-i.uppers i c.next_ends-ends.result.upper below c.loop-i.invariant.uppers ends.upper);
      lowers = simp to_z-of_z
          (next_number w table (λ j v. lower_height v w (j + 1)) c.loop-i.lowers i c.next_ends-ends.result.lower below' c.loop-i.invariant.lowers ends.lower);
    }
