-- The tail of the sine series, for 0 ≤ z ≤ 8/5: within the first term left out, and far below 2^−60 after the term 11.
use Rattle.std.proofs.Common.{◌≡◌, refl, sym, ap, ap₂, subst, ℕ, zero, suc, ◌+◌, ◌*◌, ◌^◌, ◌<◌, ◌≤◌, pos, [], ◌∷◌, arith, lit<, lit≤, mul-pos}
use Rattle.std.proofs.Common.{mul_assoc, mul-le-mul, zero-lt-suc, pow_mono}
use Rattle.std.proofs.Math.Nat.{le_trans as le_trans_ℕ}
use Rattle.ring_solver.specs.Expression.{◌⊠◌}
use Rattle.ring_solver.specs.Ordered.{times}
use Rattle.ring_solver.proofs.Certificate.{le₄, moved}
use Rattle.rat_core.specs.Fraction.{ℚ, ◌÷◌, whole, ◌-ℚ◌, ◌*ℚ◌, at_most, ◌≤ℚ◌, abs}
use Rattle.rat_core.proofs.Laws.{ℚ_ordered, le_refl, le_trans, mul_nonneg}
use Rattle.rat_core.proofs.Order.{whole_le, whole_nonneg, over_nonneg, over_part, mul_mono_both}
use Rattle.trig_meaning.specs.PartialSums.{power, factorial, sine_sum}
use Rattle.trig_meaning.proofs.Alternating.{alternating, IsFalling, sum_alternating, tail_within}

-- the size of the j-th term of the sine series, z^(2j + 1) / (2j + 1)!
abbrev pub sine_term : ℚ → ℕ → ℚ
sine_term z j = power z (2 * j + 1) *ℚ (pos 1 ÷ factorial (2 * j + 1))

pub sine_sum_alternating : (n : ℕ) (z : ℚ) → sine_sum n z ≡ alternating (sine_term z) n
unfolding sine_sum
sine_sum_alternating n z = sum_alternating (sine_term z) n

-- ---- powers and factorials

pub power_nonneg : (z : ℚ) → whole 0 ≤ℚ z → (k : ℕ) → whole 0 ≤ℚ power z k
power_nonneg z h zero = whole_nonneg 1
power_nonneg z h (suc k) = mul_nonneg z (power z k) h (power_nonneg z h k)

pub power_mono : (z w : ℚ) → whole 0 ≤ℚ z → z ≤ℚ w → (k : ℕ) → power z k ≤ℚ power w k
power_mono z w h l zero = le_refl (whole 1)
power_mono z w h l (suc k) = mul_mono_both z w (power z k) (power w k) (power_nonneg z h k) (le_trans (whole 0) z w h l) l (power_mono z w h l k)

pub factorial_positive : (k : ℕ) → 0 < factorial k
factorial_positive zero = lit< tt
factorial_positive (suc k) = mul-pos (omega arith) (factorial_positive k)

-- ---- the terms fall

sine_term_nonneg : (z : ℚ) → whole 0 ≤ℚ z → (j : ℕ) → whole 0 ≤ℚ sine_term z j
sine_term_nonneg z h j = mul_nonneg (power z (2 * j + 1)) (pos 1 ÷ factorial (2 * j + 1)) (power_nonneg z h (2 * j + 1)) (over_nonneg 1 (factorial (2 * j + 1)))

pub sine_term_mono : (z w : ℚ) → whole 0 ≤ℚ z → z ≤ℚ w → (j : ℕ) → sine_term z j ≤ℚ sine_term w j
sine_term_mono z w h l j =
    mul_mono_both (power z (2 * j + 1)) (power w (2 * j + 1)) (pos 1 ÷ factorial (2 * j + 1)) (pos 1 ÷ factorial (2 * j + 1))
    (over_nonneg 1 (factorial (2 * j + 1))) (power_nonneg w (le_trans (whole 0) z w h l) (2 * j + 1)) (power_mono z w h l (2 * j + 1))
    (le_refl (pos 1 ÷ factorial (2 * j + 1)))

square_closed : (pos 8 ÷ 5) *ℚ (pos 8 ÷ 5) ≤ℚ whole 6
unfolding at_most ◌*ℚ◌ ◌÷◌
square_closed = record { le = tt }

-- z·z is at most the product of the next two factors of the factorial
square_small : (z : ℚ) → whole 0 ≤ℚ z → z ≤ℚ pos 8 ÷ 5 → (c : ℕ) → 6 ≤ c → z *ℚ z ≤ℚ whole c
square_small z h l c m =
    le_trans (z *ℚ z) ((pos 8 ÷ 5) *ℚ (pos 8 ÷ 5)) (whole c) (mul_mono_both z (pos 8 ÷ 5) z (pos 8 ÷ 5) h (over_nonneg 8 5) l l)
    (le_trans ((pos 8 ÷ 5) *ℚ (pos 8 ÷ 5)) (whole 6) (whole c) square_closed (whole_le 6 c m))

-- (k + 2)·(k + 1), for k at least 1
factors_large : (k : ℕ) → 1 ≤ k → 6 ≤ suc (suc k) * suc k
factors_large k m =
    let a : 3 ≤ suc (suc k) = omega arith in
    let b : 2 ≤ suc k = omega arith in
    le_trans_ℕ (lit≤ {m = 6} {n = 3 * 2} tt) (mul-le-mul {n₁ = 3} {m₁ = 2} {n₂ = suc (suc k)} {m₂ = suc k} a b)

-- two steps of the power and of the factorial
pub two_steps : (z : ℚ) → whole 0 ≤ℚ z → z ≤ℚ pos 8 ÷ 5 → (k : ℕ) → 1 ≤ k
    → power z (suc (suc k)) *ℚ (pos 1 ÷ factorial (suc (suc k))) ≤ℚ power z k *ℚ (pos 1 ÷ factorial k)
two_steps z h l k m =
    let c = suc (suc k) * suc k in
    let i = pos 1 ÷ (c * factorial k) in
    moved ℚ_ordered
    (ap (λ t. power z (suc (suc k)) *ℚ (pos 1 ÷ t)) (mul_assoc (suc (suc k)) (suc k) (factorial k)))
    (ap (λ t. power z k *ℚ t) (over_part (pos 1) c (factorial k) (mul-pos (zero-lt-suc (suc k)) (zero-lt-suc k)) (factorial_positive k)))
    (le₄ ℚ_ordered (λ z p i c. z ⊠ (z ⊠ p) ⊠ i) (λ z p i c. p ⊠ (i ⊠ c)) (λ z p i c. times (p ⊠ i) (z ⊠ z) c ∷ []) refl
    z (power z k) i (whole c) (mul_nonneg (power z k) i (power_nonneg z h k) (over_nonneg 1 (c * factorial k)), square_small z h l c (factors_large k m), tt))

sine_term_falls : (z : ℚ) → whole 0 ≤ℚ z → z ≤ℚ pos 8 ÷ 5 → (j : ℕ) → sine_term z (suc j) ≤ℚ sine_term z j
sine_term_falls z h l j =
    let e : 2 * suc j + 1 ≡ suc (suc (2 * j + 1)) = omega arith in
    rw e (two_steps z h l (2 * j + 1) (omega arith))

pub sine_terms_fall : (z : ℚ) → whole 0 ≤ℚ z → z ≤ℚ pos 8 ÷ 5 → IsFalling (sine_term z)
sine_terms_fall z h l = record { nonneg = sine_term_nonneg z h; falls = sine_term_falls z h l }

-- ---- the tail

pub sine_tail : (z : ℚ) → whole 0 ≤ℚ z → z ≤ℚ pos 8 ÷ 5 → (m n : ℕ) → m ≤ n → abs (sine_sum n z -ℚ sine_sum m z) ≤ℚ sine_term z (suc m)
sine_tail z h l m n k =
    subst (λ t. abs t ≤ℚ sine_term z (suc m)) (ap₂ ◌-ℚ◌ (sym (sine_sum_alternating n z)) (sym (sine_sum_alternating m z)))
    (tail_within m n (sine_term z) (sine_terms_fall z h l) k)

-- (8/5)^25 / 25! is less than a hundredth of 2^−60
term_closed : sine_term (pos 8 ÷ 5) 12 *ℚ whole (2 ^ 60) ≤ℚ pos 1 ÷ 100
unfolding at_most ◌*ℚ◌ ◌÷◌
term_closed = record { le = tt }

-- the tail after the term 11, in units of 2^−bits
pub sine_tail_small : (bits : ℕ) → bits ≤ 60 → (z : ℚ) → whole 0 ≤ℚ z → z ≤ℚ pos 8 ÷ 5 → (n : ℕ) → 11 ≤ n
    → abs (sine_sum n z -ℚ sine_sum 11 z) *ℚ whole (2 ^ bits) ≤ℚ pos 1 ÷ 100
sine_tail_small bits b z h l n k =
    let tail = sine_tail z h l 11 n k in
    let term = sine_term_mono z (pos 8 ÷ 5) h l 12 in
    le_trans (abs (sine_sum n z -ℚ sine_sum 11 z) *ℚ whole (2 ^ bits)) (sine_term (pos 8 ÷ 5) 12 *ℚ whole (2 ^ 60)) (pos 1 ÷ 100)
    (mul_mono_both (abs (sine_sum n z -ℚ sine_sum 11 z)) (sine_term (pos 8 ÷ 5) 12) (whole (2 ^ bits)) (whole (2 ^ 60)) (whole_nonneg (2 ^ bits))
    (sine_term_nonneg (pos 8 ÷ 5) (over_nonneg 8 5) 12)
    (le_trans (abs (sine_sum n z -ℚ sine_sum 11 z)) (sine_term z 12) (sine_term (pos 8 ÷ 5) 12) tail term)
    (whole_le (2 ^ bits) (2 ^ 60) (pow_mono {i = bits} {j = 60} b)))
    term_closed
