use Rattle.std.proofs.Common.{ap₂, ◌*ℤ◌, pos, ℤ, FitsSigned}
use Rattle.std.specs.Int.{w128}
use Rattle.std.proofs.lemmas.Int.{to_z-of_z}
use Rattle.gradient_bounds.specs.declared.threshold.Measure.TheVariants.{Bend}
use Rattle.corner_bounds.proofs.Units.{IsComputed, computed_of}
use Rattle.corner_bounds.proofs.sag.sag_threshold.Given as given
use Rattle.corner_bounds.proofs.sag.sag_threshold.Goals as goal

computed : (g : given.Over) (c : goal.After-slack_units g) → IsComputed c.pi_square.result c.parts.result c.slack_units.result
computed g c =
    computed_of g.S.Scale.BITS c.args.low c.args.level c.pi_square.result c.parts.result c.slack_units.result g.S.Scale.bits_in_range.1 c.requires.level
    c.pi_square.ensures.at_least c.pi_square.ensures.size c.parts.ensures c.slack_units.ensures

pub returns-clause-sag : goal.returns-clause-sag
returns-clause-sag g c =
    let is = computed g c in
    let square = is.square in
    let rate = is.rate in
    let parts = is.parts in
    let slack : FitsSigned w128 c.slack_units.result = record { sfits = c.slack_units.type_inv } in
    simp to_z-of_z (record {
      square = c.pi_square.result;
      is_square = c.pi_square.ensures.square;
      is = ap₂ (λ (m u : ℤ). record { measure = Bend; rate = pos 2 *ℤ c.pi_square.result; parts = m; slack = u }) c.parts.ensures c.slack_units.ensures;
    })

pub returns-clause-threshold : goal.returns-clause-threshold
returns-clause-threshold g c =
    let is = computed g c in
    let square = is.square in
    let rate = is.rate in
    let parts = is.parts in
    let slack : FitsSigned w128 c.slack_units.result = record { sfits = c.slack_units.type_inv } in
    simp to_z-of_z is.is_threshold
