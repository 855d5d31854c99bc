use Rattle.std.proofs.Common.{◌≡◌, sym, subst, ap₂, ◌∙◌, ◌*◌, ◌/◌, ◌≤◌, pos, unsigned_abs, arith}
use Rattle.std.proofs.lemmas.Int.{to_z-of_z}
use Rattle.rat_core.specs.Fraction.{◌÷◌, ◌*ℚ◌}
use Rattle.trig_meaning.specs.PartialSums.{pi_sum}
use Rattle.trig_meaning.proofs.FromSomeOnLaws.{onward}
use Rattle.trig_meaning.proofs.PiBetween.{pi_between_lem}
use Rattle.sine_fixed.specs.ReferenceAngle.{ReferenceAngle, value}
use Rattle.sine_fixed.specs.Near.{IsNear}
use Rattle.sine_fixed.specs.declared.series.TheConstants.{PI}
use Rattle.sine_fixed.proofs.Errors.{angle_near}
use Rattle.sine_fixed.proofs.Sizes.{numerator_fits, denominator_fits}
use Rattle.sine_fixed.proofs.series.angle.Goals as goal

pub returns-clause-near : goal.returns-clause-near
returns-clause-near c =
    let reference = c.t.invariant.2 in
    let num = unsigned_abs c.t.inside.num in
    let den = unsigned_abs c.t.inside.den in
    let num_fits = numerator_fits c.t.inside.num den reference.quarter reference.small in
    let den_fits = denominator_fits c.t.inside.den reference.small in
    let num_is : c.unsigned_abs.result ≡ num = simp to_z-of_z at c.unsigned_abs.ensures.value in
    let den_is : c.unsigned_abs-2.result ≡ den = simp to_z-of_z at c.unsigned_abs-2.ensures.value in
    let is : c.quotient.result ≡ PI * num / den = c.quotient.ensures ∙ ap₂ (λ a b. PI * a / b) num_is den_is in
    let below : num ≤ den = omega (arith, reference.quarter) in
    onward
    (λ n between.
    subst (λ (t : ReferenceAngle). IsNear 0 2 c.quotient.result (pi_sum n *ℚ value t)) c.t.view_is
    (subst (λ q. IsNear 0 2 q (pi_sum n *ℚ (pos num ÷ den))) (sym is)
    (angle_near PI num den (pi_sum n) reference.positive below between.low between.high)))
    pi_between_lem.fine
