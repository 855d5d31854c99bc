use Rattle.std.proofs.Common.{◌≡◌, ap₂, subst, ◌-◌, ◌*◌, ◌^◌, ◌≤◌, ℤ, pos, ◌+ℤ◌, ◌-ℤ◌, ◌*ℤ◌, unsigned_abs, FitsSigned, arith}
use Rattle.std.specs.Int.{w64, w128}
use Rattle.std.specs.Int.Signed.{shr_z, mag_shr}
use Rattle.std.proofs.lemmas.Int.{ints, to_z-of_z, fits_signed_from_abs}
use Rattle.std.proofs.lemmas.Nat.{pow_pos}
use Rattle.directed_fixed.specs.Rounding.{IsFloor}
use Rattle.directed_fixed.proofs.Rounding.{floor_of_shift}
use Rattle.sine_fixed.proofs.sine_table.low_of_sum.Goals as goal

-- the sum of two products, less its error
record AreFit (p q : ℤ) : Type 0 where
  pub first : FitsSigned w128 p
  pub second : FitsSigned w128 q
  pub sum : FitsSigned w128 (p +ℤ q)
  pub less : FitsSigned w128 (p +ℤ q -ℤ pos (121 * 2 ^ 60))

are_fit : (p q : ℤ) → unsigned_abs p ≤ 2 ^ 122 → unsigned_abs q ≤ 2 ^ 122 → AreFit p q
are_fit p q h k = record {
  first = fits_signed_from_abs w128 p (omega (arith, h));
  second = fits_signed_from_abs w128 q (omega (arith, k));
  sum = fits_signed_from_abs w128 (p +ℤ q) (omega (arith, ints, h, k));
  less = fits_signed_from_abs w128 (p +ℤ q -ℤ pos (121 * 2 ^ 60)) (omega (arith, ints, h, k));
}

fits_64 : (z : ℤ) → unsigned_abs z ≤ 2 ^ 61 → FitsSigned w64 z
fits_64 z h = fits_signed_from_abs w64 z (omega (arith, h))

pub overflow_add-sine : goal.overflow_add-sine
overflow_add-sine g c =
    let fit = are_fit c.wide_product.result c.wide_product-2.result c.wide_product.ensures.size c.wide_product-2.ensures.size in
    let first = fit.first in
    let second = fit.second in
    simp to_z-of_z fit.sum

pub overflow_sub-result : goal.overflow_sub-result
overflow_sub-result g c =
    let fit = are_fit c.wide_product.result c.wide_product-2.result c.wide_product.ensures.size c.wide_product-2.ensures.size in
    let first = fit.first in
    let second = fit.second in
    let sum = fit.sum in
    simp to_z-of_z fit.less

pub returns : goal.returns
returns g c =
    let p = c.wide_product.result in
    let q = c.wide_product-2.result in
    let k = 120 - c.BITS.result in
    let n = p +ℤ q -ℤ pos (121 * 2 ^ 60) in
    let fit = are_fit p q c.wide_product.ensures.size c.wide_product-2.ensures.size in
    let first = fit.first in
    let second = fit.second in
    let sum = fit.sum in
    let less = fit.less in
    let step_sine : FitsSigned w64 c.args.step.sine = fits_64 c.args.step.sine c.requires.step_sine in
    let step_cosine : FitsSigned w64 c.args.step.cosine = fits_64 c.args.step.cosine c.requires.step_cosine in
    let part_sine : FitsSigned w64 c.args.part.sine = fits_64 c.args.part.sine c.requires.part_sine in
    let part_cosine : FitsSigned w64 c.args.part.cosine = fits_64 c.args.part.cosine c.requires.part_cosine in
    let p_is : p ≡ c.args.step.sine *ℤ c.args.part.cosine = simp to_z-of_z at c.wide_product.ensures.is in
    let q_is : q ≡ c.args.step.cosine *ℤ c.args.part.sine = simp to_z-of_z at c.wide_product-2.ensures.is in
    let shifted : FitsSigned w128 (shr_z n (2 ^ k)) = record { sfits = omega (arith, less.sfits, mag_shr n (2 ^ k)) } in
    let floor : IsFloor (shr_z n (2 ^ k)) n (pos (2 ^ k)) = floor_of_shift n (2 ^ k) (pow_pos k) in
    let at_scale : IsFloor (shr_z n (2 ^ k)) n (pos (2 ^ (120 - g.S.Scale.BITS))) =
    subst (λ b. IsFloor (shr_z n (2 ^ k)) n (pos (2 ^ (120 - b)))) c.BITS.ensures floor
    in
    simp to_z-of_z
    (subst (λ (m : ℤ). IsFloor (shr_z n (2 ^ k)) (m -ℤ pos (121 * 2 ^ 60)) (pos (2 ^ (120 - g.S.Scale.BITS))))
    (ap₂ ◌+ℤ◌ p_is q_is) at_scale)
