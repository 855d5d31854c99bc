use Rattle.std.proofs.Common.{subst, pos, ◌+ℤ◌, FitsSigned}
use Rattle.std.specs.Int.{w64, w128}
use Rattle.std.proofs.lemmas.Int.{to_z-of_z}
use Rattle.rat_core.specs.Fraction.{ℚ}
use Rattle.trig_meaning.specs.Turn.{sine_of_turn}
use Rattle.trig_meaning.proofs.FromSomeOnLaws.{onward}
use Rattle.directed_fixed.specs.Ends.{Encloses}
use Rattle.sine_fixed.proofs.sine_table.SineTable.low_sine.Goals as goal

pub returns-clause-low : goal.returns-clause-low
returns-clause-low g c =
    let parts : FitsSigned w64 c.parts_of_turn.result = record { sfits = c.parts_of_turn.type_inv } in
    let fits : FitsSigned w128 c.low_of_parts.result = record { sfits = c.low_of_parts.type_inv } in
    let low = c.low_of_parts.result in
    let encloses = simp to_z-of_z at c.low_of_parts.ensures.low in
    simp to_z-of_z
    (onward
    (λ n h. subst (λ (t : ℚ). Encloses g.S.Scale.BITS (record { lo = low; hi = low +ℤ pos 256 }) (sine_of_turn n t)) c.parts_of_turn.ensures.turn h)
    encloses)
