use Rattle.std.proofs.Common.{◌≡◌, rules, ◌*◌, ◌≤◌, ℤ, ◌+ℤ◌, ◌*ℤ◌, to_z, of_z, arith, ap, ap₂, ◌∙◌}
use Rattle.std.specs.Int.{w32, w64}
use Rattle.std.specs.Prelude.{unsigned_abs}
use mir.Val.{SFits}
use Rattle.std.proofs.lemmas.Int.{to_z-of_z, fits_signed_from_abs, unsigned_abs-mul}
use Rattle.exp_sums.specs.Limits.{greatest_weight}
use Rattle.exp_sums.proofs.products.product.Goals as goal

-- what the code computes of two numbers of a direction is their sum, where that is near
sum_is : (a b : ℤ) → SFits w32 a → SFits w32 b → unsigned_abs (a +ℤ b) ≤ 4096 → to_z w32 (of_z w32 (to_z w32 (of_z w32 a) +ℤ to_z w32 (of_z w32 b))) ≡ a +ℤ b
sum_is a b a_fits b_fits near =
    let fits : SFits w32 (a +ℤ b) = fits_signed_from_abs w32 (a +ℤ b) (omega (arith, near)) in
    ap (λ z. to_z w32 (of_z w32 z)) (ap₂ ◌+ℤ◌ (to_z-of_z w32 a a_fits) (to_z-of_z w32 b b_fits)) ∙ to_z-of_z w32 (a +ℤ b) fits

-- the product of two coefficients fits 64 bits, and is what the code computes
module _ (a b : ℤ) (a_fits : SFits w64 a) (b_fits : SFits w64 b) (light : unsigned_abs a * unsigned_abs b ≤ greatest_weight) where
  product_fits : SFits w64 (a *ℤ b)
  product_fits = fits_signed_from_abs w64 (a *ℤ b) (omega (arith, unsigned_abs-mul a b, light))

  product_is : to_z w64 (of_z w64 a) *ℤ to_z w64 (of_z w64 b) ≡ a *ℤ b
  product_is = ap₂ ◌*ℤ◌ (to_z-of_z w64 a a_fits) (to_z-of_z w64 b b_fits)

  product_kept : to_z w64 (of_z w64 (to_z w64 (of_z w64 a) *ℤ to_z w64 (of_z w64 b))) ≡ a *ℤ b
  product_kept = ap (λ z. to_z w64 (of_z w64 z)) product_is ∙ to_z-of_z w64 (a *ℤ b) product_fits

pub returns : goal.returns
returns c =
    let t = c.args.first in
    let u = c.args.second in
    let t_m : SFits w32 c.args.first.dir.m = search rules in
    let t_n : SFits w32 c.args.first.dir.n = search rules in
    let t_c : SFits w64 c.args.first.c = search rules in
    let u_m : SFits w32 c.args.second.dir.m = search rules in
    let u_n : SFits w32 c.args.second.dir.n = search rules in
    let u_c : SFits w64 c.args.second.c = search rules in
    let m = sum_is t.dir.m u.dir.m t_m u_m c.requires.near.m in
    let n = sum_is t.dir.n u.dir.n t_n u_n c.requires.near.n in
    let coefficient = product_kept t.c u.c t_c u_c c.requires.light in
    λ i. record { dir = record { m = m i; n = n i }; c = coefficient i }
