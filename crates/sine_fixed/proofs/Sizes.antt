-- That what the machine computes fits its types.
use Rattle.std.proofs.Common.{◌≡◌, sym, ap, ◌∙◌, ℕ, ◌+◌, ◌-◌, ◌*◌, ◌/◌, ◌^◌, ◌≤◌, ℤ, pos, ◌+ℤ◌, ◌-ℤ◌, unsigned_abs, Fits, FitsSigned, arith}
use Rattle.std.proofs.Common.{lit≤, mul-le-mul}
use Rattle.std.proofs.lemmas.Int.{ints, fits_signed_from_abs}
use Rattle.std.proofs.lemmas.Nat.{pow-add}
use Rattle.std.proofs.Math.Nat.{div-le_of_le-mul}
use Rattle.std.proofs.Math.Pow.{pow_mono}
use Rattle.std.specs.Int.{w64, w128}
use Rattle.directed_fixed.specs.Ends.{IsWithin}

product_most : (a b : ℕ) → a ≤ 2 ^ 61 → b ≤ 2 ^ 61 → a * b ≤ 2 ^ 122
product_most a b h k = mul-le-mul {n₁ = a} {m₁ = b} {n₂ = 2 ^ 61} {m₂ = 2 ^ 61} h k

pub product_fits : (a b bits : ℕ) → a ≤ 2 ^ 61 → b ≤ 2 ^ 61 → 60 ≤ bits → Fits w64 (a * b / 2 ^ bits)
product_fits a b bits h k least =
    let power : 2 ^ 60 ≤ 2 ^ bits = pow_mono least in
    let room : 2 ^ 60 * 2 ^ 62 ≤ 2 ^ bits * 2 ^ 62 = mul-le-mul {n₁ = 2 ^ 60} {m₁ = 2 ^ 62} {n₂ = 2 ^ bits} {m₂ = 2 ^ 62} power (lit≤ tt) in
    let most : a * b / 2 ^ bits ≤ 2 ^ 62 = div-le_of_le-mul (2 ^ bits) (omega (arith, product_most a b h k, room)) in
    record { fits = omega arith }

pub square_small : (a : ℕ) → a ≤ 2 ^ 61 → a * a / 2 ^ 62 ≤ 2 ^ 60
square_small a h = div-le_of_le-mul (2 ^ 62) (omega (arith, product_most a a h h))

pub product_size : (a b : ℕ) → a ≤ 2 ^ 61 → b ≤ 2 ^ 60 → a * b / 2 ^ 60 ≤ 2 ^ 61
product_size a b h k =
    let product : a * b ≤ 2 ^ 61 * 2 ^ 60 = mul-le-mul {n₁ = a} {m₁ = b} {n₂ = 2 ^ 61} {m₂ = 2 ^ 60} h k in
    div-le_of_le-mul (2 ^ 60) (omega (arith, product))

-- ---- the shift to a scale

pub shift_room : (bits : ℕ) → bits ≤ 60 → 2 ^ bits * 2 ^ (60 - bits) ≡ 2 ^ 60
shift_room bits most =
    let all : bits + (60 - bits) ≡ 60 = omega arith in
    sym (pow-add 2 bits (60 - bits)) ∙ ap (λ k. 2 ^ k) all

pub shifted_small : (bits x : ℕ) → bits ≤ 60 → x ≤ 2 ^ 61 → x / 2 ^ (60 - bits) ≤ 2 * 2 ^ bits
shifted_small bits x most small =
    let step = 2 ^ (60 - bits) in
    let all : 2 ^ bits * step ≡ 2 ^ 60 = shift_room bits most in
    let twice : step * (2 * 2 ^ bits) ≡ 2 * (2 ^ bits * step) = omega arith in
    div-le_of_le-mul step (omega (arith, all, twice))

pub shifted_within : (bits b : ℕ) → 30 ≤ bits → b ≤ 2 * 2 ^ bits → IsWithin (3 * 2 ^ bits) (record { lo = pos b -ℤ pos 27; hi = pos b +ℤ pos 31 })
shifted_within bits b least small =
    let power : 2 ^ 30 ≤ 2 ^ bits = pow_mono least in
    record { low = omega (arith, ints); high = omega (arith, ints) }

pub shifted_fit : (bits b : ℕ) → bits ≤ 60 → b ≤ 2 * 2 ^ bits → FitsSigned w128 (pos b) × FitsSigned w128 (pos b -ℤ pos 27) × FitsSigned w128 (pos b +ℤ pos 31)
shifted_fit bits b most small =
    let power : 2 ^ bits ≤ 2 ^ 60 = pow_mono most in (
      fits_signed_from_abs w128 (pos b) (omega (arith, ints)),
      fits_signed_from_abs w128 (pos b -ℤ pos 27) (omega (arith, ints)),
      fits_signed_from_abs w128 (pos b +ℤ pos 31) (omega (arith, ints)),
    )

-- ---- the parts of a reference angle

pub numerator_fits : (a : ℤ) (den : ℕ) → 2 * unsigned_abs a ≤ den → den ≤ 2 ^ 42 → FitsSigned w128 a
numerator_fits a den k l = fits_signed_from_abs w128 a (omega arith)

pub denominator_fits : (d : ℤ) → unsigned_abs d ≤ 2 ^ 42 → FitsSigned w128 d
denominator_fits d h = fits_signed_from_abs w128 d (omega arith)
