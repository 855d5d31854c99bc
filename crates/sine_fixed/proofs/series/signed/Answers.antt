use Rattle.std.proofs.Common.{sym, subst, pos, ◌-ℤ◌, FitsSigned, arith}
use Rattle.std.specs.Int.{w64}
use Rattle.std.proofs.lemmas.Int.{ints, to_z-of_z, fits_signed_from_abs}
use Rattle.sine_fixed.specs.ReferenceAngle.{signed_value}
use Rattle.sine_fixed.specs.SineTables.{IsClose}
use Rattle.sine_fixed.proofs.TwoProducts.{negative_close}
use Rattle.sine_fixed.proofs.series.signed.Goals as goal

pub returns-then-negative-clause-close : goal.returns-then-negative-clause-close
returns-then-negative-clause-close c =
    let x = c.args.number in
    let size = c.requires in
    let fits : FitsSigned w64 x = fits_signed_from_abs w64 x (omega (arith, size)) in
    let negative : FitsSigned w64 (pos 0 -ℤ x) = fits_signed_from_abs w64 (pos 0 -ℤ x) (omega (arith, ints, size)) in
    λ v h. simp to_z-of_z (subst (λ b. IsClose (pos 0 -ℤ x) (signed_value b v)) (sym c.if-negative.true) (negative_close x v h))
