use Rattle.std.proofs.Common.{FitsSigned, ◌*ℤ◌, ◌^◌, lit<, arith}
use Rattle.std.specs.Int.{w128}
use Rattle.std.specs.Int.Signed.{shr_z, mag_shr}
use Rattle.std.proofs.lemmas.Int.{to_z-of_z, fits_signed_mul}
use Rattle.std.proofs.lemmas.Nat.{pow_pos}
use Rattle.directed_fixed.proofs.Rounding.{floor_of_shift}
use Rattle.directed_fixed.proofs.direction.DownDirection.mul.Goals as goal

pub returns : goal.returns
returns c =
    let a : FitsSigned w128 c.args.a = c.ranges.a in
    let b : FitsSigned w128 c.args.b = c.ranges.b in
    let ab : FitsSigned w128 (c.args.a *ℤ c.args.b) =
    fits_signed_mul w128 c.args.a c.args.b (2 ^ 63) (2 ^ 63) c.requires.first_factor c.requires.second_factor (lit< tt)
    in
    let q : FitsSigned w128 (shr_z (c.args.a *ℤ c.args.b) (2 ^ c.args.bits)) =
    record { sfits = omega (arith, ab.sfits, mag_shr (c.args.a *ℤ c.args.b) (2 ^ c.args.bits)) }
    in
    simp to_z-of_z (floor_of_shift (c.args.a *ℤ c.args.b) (2 ^ c.args.bits) (pow_pos c.args.bits))
