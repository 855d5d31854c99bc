-- How large the whole numbers are that decide on which side a point lies.
use Rattle.std.proofs.Common.{◌≡◌, ℕ, ◌+◌, ◌*◌, ◌^◌, ◌<◌, ◌≤◌, ℤ, pos, ◌-ℤ◌, ◌*ℤ◌, unsigned_abs, to_z, of_z, to_z-of_z, arith, lit<, lit≤}
use Rattle.std.specs.Prelude.{FitsSigned}
use Rattle.std.proofs.lemmas.Int.{ints, unsigned_abs-mul, fits_signed_mul, fits_signed_from_abs}
use Rattle.std.proofs.Math.Nat.{mul-le-mul}
use mir.Syntax.{w128}

-- the size of a difference
unsigned_abs-sub : (x y : ℤ) → unsigned_abs (x -ℤ y) ≤ unsigned_abs x + unsigned_abs y
unsigned_abs-sub x y = omega (arith, ints)

-- a product of bounded numbers
product_at_most : (x y : ℤ) (m n k : ℕ) → unsigned_abs x ≤ m → unsigned_abs y ≤ n → m * n ≤ k → unsigned_abs (x *ℤ y) ≤ k
product_at_most x y m n k h l e = let p : unsigned_abs x * unsigned_abs y ≤ m * n = mul-le-mul h l in omega (arith, unsigned_abs-mul x y)

-- how far a written fraction lies from a line of the grid, times its denominator
pub offset_small : (grid at d : ℕ) (n : ℤ) → grid ≤ 2 ^ 20 → at ≤ 2 ^ 20 → d ≤ 2 ^ 21 → unsigned_abs n < 2 ^ 60
    → unsigned_abs (pos grid *ℤ n -ℤ pos at *ℤ pos d) ≤ 2 ^ 81
offset_small grid at d n g a h k =
    let l : unsigned_abs (pos grid *ℤ n) ≤ 2 ^ 80 = product_at_most (pos grid) n (2 ^ 20) (2 ^ 60) (2 ^ 80) g (omega arith) (lit≤ tt) in
    let r : unsigned_abs (pos at *ℤ pos d) ≤ 2 ^ 41 = product_at_most (pos at) (pos d) (2 ^ 20) (2 ^ 21) (2 ^ 41) a h (lit≤ tt) in
    omega (arith, unsigned_abs-sub (pos grid *ℤ n) (pos at *ℤ pos d))

-- in 128 bits this distance is computed exactly
pub offset_kept : (grid at d : ℕ) (n : ℤ) → grid ≤ 2 ^ 20 → at ≤ 2 ^ 20 → d ≤ 2 ^ 21 → unsigned_abs n < 2 ^ 60
    → to_z w128 (of_z w128 (to_z w128 (of_z w128 (to_z w128 (of_z w128 (pos grid)) *ℤ to_z w128 (of_z w128 n))) -ℤ to_z w128
    (of_z w128 (to_z w128 (of_z w128 (pos at)) *ℤ to_z w128 (of_z w128 (pos d)))))) ≡ pos grid *ℤ n -ℤ pos at *ℤ pos d
offset_kept grid at d n g a h k =
    let gf : FitsSigned w128 (pos grid) = fits_signed_from_abs w128 (pos grid) (omega arith) in
    let nf : FitsSigned w128 n = fits_signed_from_abs w128 n (omega arith) in
    let af : FitsSigned w128 (pos at) = fits_signed_from_abs w128 (pos at) (omega arith) in
    let df : FitsSigned w128 (pos d) = fits_signed_from_abs w128 (pos d) (omega arith) in
    let gn : FitsSigned w128 (pos grid *ℤ n) = fits_signed_mul w128 (pos grid) n (2 ^ 20) (2 ^ 60) g (omega arith) (lit< tt) in
    let ad : FitsSigned w128 (pos at *ℤ pos d) = fits_signed_mul w128 (pos at) (pos d) (2 ^ 20) (2 ^ 21) a h (lit< tt) in
    let all : FitsSigned w128 (pos grid *ℤ n -ℤ pos at *ℤ pos d) = fits_signed_from_abs w128 (pos grid *ℤ n -ℤ pos at *ℤ pos d)
    (omega (arith, offset_small grid at d n g a h k)) in
    simp to_z-of_z

-- a difference of two corners times such an offset
first_small : (s o : ℤ) → unsigned_abs s ≤ 2 ^ 20 → unsigned_abs o ≤ 2 ^ 81 → unsigned_abs (s *ℤ o) ≤ 2 ^ 101
first_small s o h k = product_at_most s o (2 ^ 20) (2 ^ 81) (2 ^ 101) h k (lit≤ tt)

-- 128 bits keep what is that small
small_kept : (z : ℤ) → unsigned_abs z ≤ 2 ^ 101 → to_z w128 (of_z w128 z) ≡ z
small_kept z h = to_z-of_z (fits_signed_from_abs w128 z (omega arith))

-- a number of steps times an offset fits
pub first_fits : (s o : ℤ) → unsigned_abs s ≤ 2 ^ 20 → unsigned_abs o ≤ 2 ^ 81 → FitsSigned w128 (to_z w128 (of_z w128 s) *ℤ to_z w128 (of_z w128 o))
first_fits s o h k = rw (small_kept s (omega arith), small_kept o (omega arith)) (fits_signed_mul w128 s o (2 ^ 20) (2 ^ 81) h k (lit< tt))

-- 128 bits keep the first product
first_kept : (s o : ℤ) → unsigned_abs s ≤ 2 ^ 20 → unsigned_abs o ≤ 2 ^ 81 → to_z w128 (of_z w128 (to_z w128 (of_z w128 s) *ℤ to_z w128 (of_z w128 o))) ≡ s *ℤ o
first_kept s o h k = rw (small_kept s (omega arith), small_kept o (omega arith)) (small_kept (s *ℤ o) (first_small s o h k))

-- the first product times a denominator fits
pub second_fits : (s o d : ℤ) → unsigned_abs s ≤ 2 ^ 20 → unsigned_abs o ≤ 2 ^ 81 → unsigned_abs d ≤ 2 ^ 21
    → FitsSigned w128 (to_z w128 (of_z w128 (to_z w128 (of_z w128 s) *ℤ to_z w128 (of_z w128 o))) *ℤ to_z w128 (of_z w128 d))
second_fits s o d h k l = rw (first_kept s o h k, small_kept d (omega arith))
    (fits_signed_mul w128 (s *ℤ o) d (2 ^ 101) (2 ^ 21) (first_small s o h k) l (lit< tt))

-- 128 bits keep it
pub second_kept : (s o d : ℤ) → unsigned_abs s ≤ 2 ^ 20 → unsigned_abs o ≤ 2 ^ 81 → unsigned_abs d ≤ 2 ^ 21
    → to_z w128 (of_z w128 (to_z w128 (of_z w128 (to_z w128 (of_z w128 s) *ℤ to_z w128 (of_z w128 o))) *ℤ to_z w128 (of_z w128 d))) ≡ s *ℤ o *ℤ d
second_kept s o d h k l =
    rw (first_kept s o h k, small_kept d (omega arith))
    (to_z-of_z (fits_signed_mul w128 (s *ℤ o) d (2 ^ 101) (2 ^ 21) (first_small s o h k) l (lit< tt)))
