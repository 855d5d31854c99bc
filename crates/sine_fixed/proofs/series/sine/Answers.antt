use Rattle.std.proofs.Common.{◌≡◌, subst, ap}
use Rattle.rat_core.specs.Fraction.{◌*ℚ◌}
use Rattle.trig_meaning.specs.PartialSums.{pi_sum, sine_sum}
use Rattle.trig_meaning.proofs.FromSomeOnLaws.{onward}
use Rattle.directed_fixed.specs.Ends.{Encloses}
use Rattle.sine_fixed.specs.ReferenceAngle.{ReferenceAngle, IsReference, value, signed_value}
use Rattle.sine_fixed.proofs.Sines.{sine_near}
use Rattle.sine_fixed.proofs.series.sine.Goals as goal

pub returns-clause-encloses : goal.returns-clause-encloses
returns-clause-encloses g c =
    let reference : IsReference c.args.t = subst IsReference c.t.view_is c.t.invariant.2 in
    let sign : c.t.inside.negative ≡ c.args.t.negative = ap (λ (a : ReferenceAngle). a.negative) c.t.view_is in
    onward
    (λ n near.
    let sum = sine_sum n (pi_sum n *ℚ value c.args.t) in
    subst (λ b. Encloses g.S.Scale.BITS c.with_sign.result (signed_value b sum)) sign
    (c.with_sign.ensures.encloses sum (c.enclosure.ensures.encloses sum near)))
    (sine_near c.angle.result c.series.result c.args.t reference c.angle.ensures.near c.series.ensures.near)
