use Rattle.std.proofs.Common.{◌≡◌, ◌/◌, ◌*◌, ◌+◌, ◌^◌, ◌≤◌, pos, ◌+ℤ◌, ◌*ℤ◌, ◌≤ℤ◌, unsigned_abs, FitsSigned, to_z, ap₂, subst, ◌∙◌, arith}
use Rattle.std.specs.Int.{w128}
use Rattle.std.proofs.lemmas.Int.{ints, to_z-of_z, to_z_pos}
use Rattle.gradient_bounds.specs.Decision.{rounded_up}
use Rattle.gradient_bounds.proofs.Computed.{enough_of}
use Rattle.sine_fixed.proofs.Turning.{fits_128}
use Rattle.gradient_bounds.proofs.needs.enough.Goals as goal

pub returns : goal.returns
returns c =
    let t = c.args.threshold.now in
    let is_threshold = c.requires.threshold in
    let n = c.product.result in
    let d = t.parts in
    let q = c.quotient.result in
    let e = pos (256 * c.args.sizes.now.weight) in
    let m = t.slack *ℤ pos (1 + c.args.sizes.now.weight) in
    let n_fits : FitsSigned w128 c.product.result = record { sfits = c.product.type_inv } in
    let d_small : unsigned_abs t.parts ≤ 2 ^ 42 = omega (arith, ints, is_threshold.parts_at_least, is_threshold.parts_at_most) in
    let d_fits : FitsSigned w128 c.args.threshold.now.parts = fits_128 t.parts (omega (arith, d_small)) in
    let n_is = simp to_z-of_z at c.unsigned_abs-parts.ensures.value in
    let d_is = simp to_z-of_z at c.unsigned_abs.ensures.value in
    let q_is : q ≡ unsigned_abs n / unsigned_abs d = c.quotient.ensures ∙ ap₂ (λ a b. a / b) n_is d_is in
    let is = enough_of c.allowance.result e m n d q c.allowance.ensures.size c.allowance.ensures.is c.product.ensures.at_least
    c.product.ensures.size is_threshold.parts_at_least q_is in
    let small = is.small in
    let whole : to_z w128 c.quotient.result ≡ pos c.quotient.result = to_z_pos w128 c.quotient.result (omega (arith, ints, small)) in
    let rounded = is.rounded in
    let allowance = is.allowance in
    let sum = is.sum in
    rw whole
    (simp to_z-of_z
    (subst (λ n. (e +ℤ (rounded_up n d +ℤ m)) ≤ℤ (c.allowance.result +ℤ (pos c.quotient.result +ℤ pos 1))) c.product.ensures.is is.enough))
