use Rattle.std.proofs.Common.{◌<◌, pos, FitsSigned, length, map, arith}
use Rattle.std.specs.Int.{w128}
use Rattle.std.proofs.lemmas.Int.{to_z-of_z}
use Rattle.std.proofs.lemmas.List.Elements.{All-get_or, All-from_all_within, AllWithin-upto}
use Rattle.rat_core.specs.Fraction.{◌÷◌}
use Rattle.exp_sums.specs.declared.direction.Dir.{Dir}
use Rattle.exp_sums.specs.Limits.{IsNear}
use Rattle.gradient_bounds.specs.declared.sine_low.SineLow.{SineLow}
use Rattle.sine_fixed.specs.SineTables.{half_turn}
use Rattle.gradient_bounds.specs.Kept.{IsSmallEntry}
use Rattle.gradient_bounds.proofs.Sums.{next_entry}
use Rattle.gradient_bounds.proofs.table.fill_on_grid.Goals as goal

nearer : (d : Dir) → IsNear 130 d → IsNear 4096 d
nearer d near = record { m = omega (arith, near.m); n = omega (arith, near.n) }

pub low_sine-entry-requires-clause-near : goal.low_sine-entry-requires-clause-near
low_sine-entry-requires-clause-near g c =
    let below : c.loop-entry.entry-index < length c.loop-entry.table = omega (arith, c.loop-entry-test.true, c.loop-entry.auto.table) in
    nearer _ (All-get_or (λ (e : SineLow). IsNear 130 e.dir) c.loop-entry.table c.loop-entry.entry-index _ below c.loop-entry.invariant.1)

pub loop-entry-preserved : goal.loop-entry-preserved
loop-entry-preserved g c =
    let at = c.args.at.now in
    let below : c.loop-entry.entry-index < length c.loop-entry.table = omega (arith, c.loop-entry-test.true, c.loop-entry.auto.table) in
    let fits : FitsSigned w128 c.low_sine-entry.result = record { sfits = c.low_sine-entry.type_inv } in
    let before = c.loop-entry.invariant in
    simp to_z-of_z
    (next_entry g.S.Scale.BITS (pos at.first ÷ half_turn) (pos at.second ÷ half_turn) (map (λ (e : SineLow). e.dir) c.args.table.now) c.loop-entry.table
    c.loop-entry.entry-index c.low_sine-entry.result below before.0 before.1 before.2 before.3 c.low_sine-entry.ensures.low c.low_sine-entry.ensures.size)

pub returns-clause-small : goal.returns-clause-small
returns-clause-small g c =
    All-from_all_within IsSmallEntry c.loop-entry.table
    (AllWithin-upto IsSmallEntry c.loop-entry.table 0 c.loop-entry.entry-index (length c.loop-entry.table)
    (omega (arith, c.loop-entry-test.false, c.loop-entry.auto.table)) c.loop-entry.invariant.3)
