use Rattle.std.proofs.Common.{FitsSigned}
use Rattle.std.specs.Int.{w128}
use Rattle.std.proofs.lemmas.Int.{to_z-of_z}
use Rattle.sine_fixed.proofs.Turning.{near_in_range}
use Rattle.sine_fixed.proofs.Weighing.{from_lower_end, low_size}
use Rattle.gradient_bounds.proofs.table.low_sine.Goals as goal

pub direction_sine-requires-clause-in_range : goal.direction_sine-requires-clause-in_range
direction_sine-requires-clause-in_range g c = near_in_range c.args.dir c.args.at.now c.requires.near c.requires.angles

pub returns-clause-low : goal.returns-clause-low
returns-clause-low g c =
    let fits : FitsSigned w128 c.lo.result = record { sfits = c.lo.type_inv } in
    simp to_z-of_z
    (from_lower_end g.S.Scale.BITS _ c.direction_sine.result c.lo.result c.direction_sine.ensures.encloses c.direction_sine.ensures.width c.lo.ensures.value)

pub returns-clause-size : goal.returns-clause-size
returns-clause-size g c =
    let fits : FitsSigned w128 c.lo.result = record { sfits = c.lo.type_inv } in
    simp to_z-of_z (low_size g.S.Scale.BITS c.direction_sine.result c.lo.result g.S.Scale.bits_in_range.1 c.direction_sine.ensures.size c.lo.ensures.value)
