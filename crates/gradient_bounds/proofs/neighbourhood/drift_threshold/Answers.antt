use Rattle.std.proofs.Common.{sym, subst, FitsSigned}
use Rattle.std.specs.Int.{w128}
use Rattle.std.proofs.lemmas.Int.{to_z-of_z}
use Rattle.directed_fixed.proofs.PiSums.{pi_size}
use Rattle.sine_fixed.proofs.Turning.{angles_fit}
use Rattle.gradient_bounds.proofs.Computed.{IsRate, rate_of, slack_between, pi_at_least}
use Rattle.gradient_bounds.proofs.neighbourhood.drift_threshold.Goals as goal

pub returns-clause-threshold : goal.returns-clause-threshold
returns-clause-threshold g c =
    let near = c.requires in
    let r = c.args.neighbourhood.now in
    let pi_small = (pi_size g.S.Scale.BITS g.S.Scale.PI_LO g.S.Scale.PI_HI g.S.Scale.bits_in_range.1 g.S.Scale.pi_between g.S.Scale.one_unit).1 in
    let pi_positive = pi_at_least g.S.Scale.BITS g.S.Scale.PI_LO g.S.Scale.PI_HI g.S.Scale.one_unit g.S.Scale.pi_between in
    let is : IsRate c.PI_HI.result c.args.neighbourhood.now.radius =
    subst (λ h. IsRate h r.radius) (sym c.PI_HI.ensures) (rate_of g.S.Scale.PI_HI r.radius pi_positive pi_small near.at_least near.at_most) in
    let slack = slack_between g.S.Scale.BITS g.S.Scale.LOW_BITS c.slack_units.result g.S.Scale.bits_in_range.1 c.slack_units.ensures in
    let pi = is.pi in
    let radius = is.radius in
    let rate = is.rate in
    let parts : FitsSigned w128 c.args.neighbourhood.now.centre.den = angles_fit c.args.neighbourhood.now.centre near.angles in
    let slack_fits : FitsSigned w128 c.slack_units.result = record { sfits = c.slack_units.type_inv } in
    simp to_z-of_z (record {
      rate_at_least = is.at_least;
      rate_at_most = is.at_most;
      parts_at_least = near.angles.positive;
      parts_at_most = near.angles.small;
      slack_at_least = slack.0;
      slack_at_most = slack.1;
    })
