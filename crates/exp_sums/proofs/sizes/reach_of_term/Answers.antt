use Rattle.std.proofs.Common.{◌≡◌, ℕ, ◌+◌, ◌*◌, ◌≤◌, ℤ, pos, ◌+ℤ◌, ◌*ℤ◌, FitsSigned, to_z, of_z, arith, ap, ap₂, ◌∙◌}
use Rattle.std.specs.Int.{w32, w64}
use Rattle.std.specs.Prelude.{unsigned_abs}
use mir.Val.{SFits}
use Rattle.std.proofs.lemmas.Int.{ints, to_z-of_z, fits_signed_from_abs}
use Rattle.std.proofs.lemmas.Nat.{mul-le}
use Rattle.exp_sums.specs.Limits.{greatest_weight}
use Rattle.exp_sums.specs.Reach.{dir_reach}
use Rattle.exp_sums.proofs.sizes.reach_of_term.Goals as goal

-- what the code computes is the absolute value, where that is small
abs_is : (a x : ℤ) → unsigned_abs a ≤ 4096 → x ≡ pos (unsigned_abs (to_z w32 (of_z w32 a))) → x ≡ pos (unsigned_abs a)
abs_is a x small is =
    let fits : SFits w32 a = fits_signed_from_abs w32 a (omega (arith, small)) in
    is ∙ ap (λ z. pos (unsigned_abs z)) (to_z-of_z w32 a fits)

coefficient_is : (a x : ℤ) → unsigned_abs a ≤ greatest_weight → x ≡ pos (unsigned_abs (to_z w64 (of_z w64 a))) → x ≡ pos (unsigned_abs a)
coefficient_is a x small is =
    let fits : SFits w64 a = fits_signed_from_abs w64 a (omega (arith, small)) in
    is ∙ ap (λ z. pos (unsigned_abs z)) (to_z-of_z w64 a fits)

-- and the sum of two
sum_is : (x y : ℤ) (k n : ℕ) → x ≡ pos k → y ≡ pos n → k ≤ 4096 → n ≤ 4096 → to_z w32 (of_z w32 (to_z w32 (of_z w32 x) +ℤ to_z w32 (of_z w32 y))) ≡ pos (k + n)
sum_is x y k n is_k is_n small short =
    let x_fits : SFits w32 x = fits_signed_from_abs w32 x (omega (arith, ints, is_k, small)) in
    let y_fits : SFits w32 y = fits_signed_from_abs w32 y (omega (arith, ints, is_n, short)) in
    let fits : SFits w32 (pos (k + n)) = fits_signed_from_abs w32 (pos (k + n)) (omega (arith, ints, small, short)) in
    ap (λ z. to_z w32 (of_z w32 z)) (ap₂ ◌+ℤ◌ (to_z-of_z w32 x x_fits ∙ is_k) (to_z-of_z w32 y y_fits ∙ is_n)) ∙ to_z-of_z w32 (pos (k + n)) fits

-- and the product
module _ (x y : ℤ) (k n : ℕ) (is_k : x ≡ pos k) (is_n : y ≡ pos n) (small : k ≤ greatest_weight) (short : n ≤ 8192) where
  product_is : to_z w64 (of_z w64 x) *ℤ to_z w64 (of_z w64 y) ≡ pos (k * n)
  product_is =
      let x_fits : SFits w64 x = fits_signed_from_abs w64 x (omega (arith, ints, is_k, small)) in
      let y_fits : SFits w64 y = fits_signed_from_abs w64 y (omega (arith, ints, is_n, short)) in
      ap₂ ◌*ℤ◌ (to_z-of_z w64 x x_fits ∙ is_k) (to_z-of_z w64 y y_fits ∙ is_n)

  whole_fits : FitsSigned w64 (pos (k * n))
  whole_fits = fits_signed_from_abs w64 (pos (k * n)) (omega (arith, ints, mul-le k n greatest_weight 8192 small short))

  product_fits : FitsSigned w64 (to_z w64 (of_z w64 x) *ℤ to_z w64 (of_z w64 y))
  product_fits = rw product_is whole_fits

  product_kept : to_z w64 (of_z w64 (to_z w64 (of_z w64 x) *ℤ to_z w64 (of_z w64 y))) ≡ pos (k * n)
  product_kept = ap (λ z. to_z w64 (of_z w64 z)) product_is ∙ to_z-of_z w64 (pos (k * n)) whole_fits

pub overflow_mul-result : goal.overflow_mul-result
overflow_mul-result c =
    let t = c.args.term in
    let near = c.requires.near in
    product_fits c.abs.result c.from.result (unsigned_abs t.c) (dir_reach t.dir)
    (coefficient_is t.c c.abs.result c.requires.light c.abs.ensures.value)
    (c.from.ensures ∙ sum_is c.abs-2.result c.abs-3.result (unsigned_abs t.dir.m) (unsigned_abs t.dir.n)
    (abs_is t.dir.m c.abs-2.result near.m c.abs-2.ensures.value) (abs_is t.dir.n c.abs-3.result near.n c.abs-3.ensures.value) near.m near.n)
    c.requires.light
    (omega (arith, near.m, near.n))

pub returns : goal.returns
returns c =
    let t = c.args.term in
    let near = c.requires.near in
    product_kept c.abs.result c.from.result (unsigned_abs t.c) (dir_reach t.dir)
    (coefficient_is t.c c.abs.result c.requires.light c.abs.ensures.value)
    (c.from.ensures ∙ sum_is c.abs-2.result c.abs-3.result (unsigned_abs t.dir.m) (unsigned_abs t.dir.n)
    (abs_is t.dir.m c.abs-2.result near.m c.abs-2.ensures.value) (abs_is t.dir.n c.abs-3.result near.n c.abs-3.ensures.value) near.m near.n)
    c.requires.light
    (omega (arith, near.m, near.n))
