-- The products of whole numbers: the laws of a ring that the library has not.
use Rattle.std.proofs.Common.{◌≡◌, ap, ◌*◌, ℤ, pos, ◌+ℤ◌, ◌*ℤ◌, arith}
use borrow.Author.Differences.{up, down, same_in, sum_is_lem, product_is}

pub *ℤ-+ℤ : (a b c : ℤ) → a *ℤ (b +ℤ c) ≡ a *ℤ b +ℤ a *ℤ c
*ℤ-+ℤ a b c =
    same_in (a *ℤ (b +ℤ c)) (a *ℤ b +ℤ a *ℤ c)
    (omega (
      arith,
      product_is a (b +ℤ c),
      sum_is_lem (a *ℤ b) (a *ℤ c),
      product_is a b,
      product_is a c,
      ap (λ t. up a * t) (sum_is_lem b c),
      ap
          (λ t. down a * t) (sum_is_lem b c),
    ))

pub *ℤ_assoc : (a b c : ℤ) → (a *ℤ b) *ℤ c ≡ a *ℤ (b *ℤ c)
*ℤ_assoc a b c =
    let left = product_is (a *ℤ b) c in
    let right = product_is a (b *ℤ c) in
    let ab = product_is a b in
    let bc = product_is b c in
    same_in ((a *ℤ b) *ℤ c) (a *ℤ (b *ℤ c))
    (omega (
      arith,
      left,
      right,
      ap (λ t. t * up c) ab.0,
      ap (λ t. t * up c) ab.1,
      ap (λ t. t * down c) ab.0,
      ap (λ t. t * down c) ab.1,
      ap
          (λ t. up a * t) bc.0,
      ap (λ t. up a * t) bc.1,
      ap (λ t. down a * t) bc.0,
      ap (λ t. down a * t) bc.1,
    ))

pub *ℤ-pos_one : (a : ℤ) → a *ℤ pos 1 ≡ a
*ℤ-pos_one a = same_in (a *ℤ pos 1) a (omega (arith, product_is a (pos 1)))
