use Rattle.std.proofs.Common.{◌≡◌, sym, subst, ap, FitsSigned, arith}
use Rattle.std.specs.Int.{w64}
use Rattle.std.proofs.lemmas.Int.{to_z_pos, to_z-of_z}
use Rattle.rat_core.specs.Fraction.{◌*ℚ◌}
use Rattle.trig_meaning.specs.PartialSums.{pi_sum, sine_sum}
use Rattle.trig_meaning.proofs.FromSomeOnLaws.{onward}
use Rattle.sine_fixed.specs.ReferenceAngle.{ReferenceAngle, IsReference, value, signed_value}
use Rattle.sine_fixed.specs.SineTables.{IsClose}
use Rattle.sine_fixed.proofs.Sines.{sine_near}
use Rattle.sine_fixed.proofs.TwoProducts.{near_close}
use Rattle.sine_fixed.proofs.series.close_sine.Goals as goal

pub returns-clause-close : goal.returns-clause-close
returns-clause-close c =
    let reference : IsReference c.args.t = subst IsReference c.t.view_is c.t.invariant.2 in
    let sign : c.t.inside.negative ≡ c.args.t.negative = ap (λ (a : ReferenceAngle). a.negative) c.t.view_is in
    let number = c.series.result in
    let kept = to_z_pos w64 number (omega (arith, c.series.ensures.size)) in
    let fits : FitsSigned w64 c.signed.result = record { sfits = c.signed.type_inv } in
    simp to_z-of_z (onward
    (λ n near.
    let sum = sine_sum n (pi_sum n *ℚ value c.args.t) in
    subst (λ b. IsClose c.signed.result (signed_value b sum)) sign
    (c.signed.ensures.close sum (subst (λ z. IsClose z sum) (sym kept) (near_close number sum near))))
    (sine_near c.angle.result c.series.result c.args.t reference c.angle.ensures.near c.series.ensures.near))
