use Rattle.std.proofs.Common.{◌≡◌, ap, ◌∙◌, ◌+◌, ◌*◌, ◌/◌, ◌%◌, ◌^◌, ◌<◌, pos, ◌+ℤ◌, unsigned_abs, FitsSigned, arith}
use Rattle.std.specs.Int.{w64, w128, int_rem_euclid}
use Rattle.std.proofs.lemmas.Int.{to_z-of_z}
use Rattle.ring_solver.proofs.Division.{rem_euclid_below}
use Rattle.rat_core.specs.Fraction.{◌÷◌}
use Rattle.trig_meaning.specs.FromSomeOn.{FromSomeOn}
use Rattle.trig_meaning.specs.Turn.{sine_of_turn}
use Rattle.directed_fixed.specs.Ends.{Encloses}
use Rattle.sine_fixed.specs.SineTables.{half_turn}
use Rattle.sine_fixed.proofs.SineTables.{entry_read, tables_enclose, low_small}
use Rattle.sine_fixed.proofs.sine_table.SineTable.low_of_parts.Given.{Over}
use Rattle.sine_fixed.proofs.sine_table.SineTable.low_of_parts.Goals as goal

low_is : (g : Over) (c : goal.After-low_of_sum g) → FromSomeOn (λ n. Encloses g.S.Scale.BITS
    (record { lo = c.low_of_sum.result; hi = c.low_of_sum.result +ℤ pos 256 })
    (sine_of_turn n (c.args.parts ÷ half_turn)))
low_is g c =
    let parts : FitsSigned w64 c.args.parts = c.ranges.parts in
    let rest : FitsSigned w64 c.rem_euclid-place.result = record { sfits = c.rem_euclid-place.type_inv } in
    let below = rem_euclid_below c.args.parts (2 * half_turn) (omega arith) in
    let k = below.0 in
    let k_below : k < 2 * half_turn = below.2 in
    let rest_is : c.rem_euclid-place.result ≡ int_rem_euclid c.args.parts (pos (2 * half_turn)) = simp to_z-of_z at c.rem_euclid-place.ensures.value in
    let place : unsigned_abs c.rem_euclid-place.result ≡ k = ap unsigned_abs (rest_is ∙ below.1) in
    let split : k ≡ 2 ^ 11 * (k / 2048) + k % 2048 = omega arith in
    let step = simp to_z-of_z at c.index-step.ensures in
    let part = simp to_z-of_z at c.index-part.ensures in
    tables_enclose g.S.Scale.BITS c.args.parts (k / 2048) (k % 2048) k c.index-step.result.now c.index-part.result.now c.low_of_sum.result
    g.S.Scale.bits_in_range.1 below.1 k_below split
    (entry_read (2 ^ 10) c.self.inside.steps.items c.index-step.result.now _ (k / 2048) c.self.invariant.0 step (ap (λ n. n / 2048) place) (omega arith))
    (entry_read (2 ^ 21) c.self.inside.parts.items c.index-part.result.now _ (k % 2048) c.self.invariant.1 part (ap (λ n. n % 2048) place) (omega arith))
    c.low_of_sum.ensures

pub returns-clause-low : goal.returns-clause-low
returns-clause-low g c =
    let fits : FitsSigned w128 c.low_of_sum.result = record { sfits = c.low_of_sum.type_inv } in
    simp to_z-of_z (low_is g c)

pub returns-clause-size : goal.returns-clause-size
returns-clause-size g c =
    let fits : FitsSigned w128 c.low_of_sum.result = record { sfits = c.low_of_sum.type_inv } in
    simp to_z-of_z (low_small g.S.Scale.BITS c.low_of_sum.result (c.args.parts ÷ half_turn) g.S.Scale.bits_in_range.1 (low_is g c))
