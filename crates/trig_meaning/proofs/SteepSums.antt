-- How steep a sine sum is: from 0 to 8/5 it changes by at most as much as its argument. The difference of two sine sums
-- is again a series that alternates in sign, and its terms fall from the second one on.
use Rattle.std.proofs.Common.{◌≡◌, refl, sym, ap, ◌∙◌, subst₂, ℕ, suc, ◌+◌, ◌*◌, ◌≤◌, pos, [], ◌∷◌, arith, lit≤, mul-pos, mul_assoc, mul-le-mul, zero-lt-suc}
use Rattle.std.proofs.Math.Nat.{le_trans as le_trans_ℕ}
use Rattle.ring_solver.specs.Expression.{num, ◌⊞◌, ◌⊟◌, ◌⊠◌}
use Rattle.ring_solver.specs.Ordered.{le, times}
use Rattle.ring_solver.proofs.Solver.{ring₁, ring₂, ring₄}
use Rattle.ring_solver.proofs.Certificate.{le₂, le₄, le₅, moved}
use Rattle.rat_core.specs.Fraction.{ℚ, ◌÷◌, whole, ◌+ℚ◌, ◌-ℚ◌, ◌*ℚ◌, at_most, ◌≤ℚ◌, abs}
use Rattle.rat_core.proofs.Laws.{ℚ_ring, ℚ_ordered, int-mul, le_trans, mul_nonneg}
use Rattle.rat_core.proofs.Order.{whole_le, whole_nonneg, over_nonneg, over_part, difference_nonneg}
use Rattle.trig_meaning.specs.PartialSums.{sign, power, factorial, sine_sum}
use Rattle.trig_meaning.proofs.Sums.{sum_to-same, sum_to-difference}
use Rattle.trig_meaning.proofs.Alternating.{alternating, sum_alternating, within_first}
use Rattle.trig_meaning.proofs.Tail.{sine_term, power_mono, factorial_positive}

square_closed : whole 3 *ℚ ((pos 8 ÷ 5) *ℚ (pos 8 ÷ 5)) ≤ℚ whole 8
unfolding at_most ◌*ℚ◌ ◌÷◌
square_closed = record { le = tt }

-- (k + 3)·(k + 2), for k at least 2
factors_large : (k : ℕ) → 2 ≤ k → 8 ≤ 1 * (suc (suc (suc k)) * suc (suc k))
factors_large k m =
    let a : 5 ≤ suc (suc (suc k)) = omega arith in
    let b : 4 ≤ suc (suc k) = omega arith in
    let product : 5 * 4 ≤ suc (suc (suc k)) * suc (suc k) = mul-le-mul {n₁ = 5} {m₁ = 4} {n₂ = suc (suc (suc k))} {m₂ = suc (suc k)} a b in
    le_trans_ℕ (lit≤ {m = 8} {n = 5 * 4} tt) (omega (arith, product))

module _ (a b : ℚ) (b_nonneg : whole 0 ≤ℚ b) (in_order : b ≤ℚ a) (a_small : a ≤ℚ pos 8 ÷ 5) where
  a_nonneg : whole 0 ≤ℚ a
  a_nonneg = le_trans (whole 0) b a b_nonneg in_order

  square_small : whole 3 *ℚ (a *ℚ a) ≤ℚ whole 8
  square_small =
      le_trans (whole 3 *ℚ (a *ℚ a)) (whole 3 *ℚ ((pos 8 ÷ 5) *ℚ (pos 8 ÷ 5))) (whole 8)
      (le₂ ℚ_ordered (λ a c. num 3 ⊠ (a ⊠ a)) (λ a c. num 3 ⊠ (c ⊠ c)) (λ a c. times (num 3 ⊠ a) a c ∷ times (num 3 ⊠ c) a c ∷ []) refl
      a (pos 8 ÷ 5)
      (mul_nonneg (whole 3) a (whole_nonneg 3) a_nonneg, a_small, (mul_nonneg (whole 3) (pos 8 ÷ 5) (whole_nonneg 3) (over_nonneg 8 5), a_small, tt)))
      square_closed

  -- a^k − b^k
  abbrev gap : ℕ → ℚ
  gap k = power a k -ℚ power b k

  gap_nonneg : (k : ℕ) → whole 0 ≤ℚ gap k
  gap_nonneg k = difference_nonneg (power b k) (power a k) (power_mono b a b_nonneg in_order k)

  -- (a − b)·b^k
  gap_at_least : (k : ℕ) → (a -ℚ b) *ℚ power b k ≤ℚ gap (suc k)
  gap_at_least k =
      le₄ ℚ_ordered (λ a b A B. (a ⊟ b) ⊠ B) (λ a b A B. a ⊠ A ⊟ b ⊠ B) (λ a b A B. times a B A ∷ []) refl
      a b (power a k) (power b k) (a_nonneg, power_mono b a b_nonneg in_order k, tt)

  gap_step : (k : ℕ) → gap (suc (suc (suc k))) ≤ℚ whole 8 *ℚ gap (suc k)
  gap_step k =
      let sum_nonneg : whole 0 ≤ℚ a +ℚ b = le₂ ℚ_ordered (λ a b. num 0) (λ a b. a ⊞ b) (λ a b. le (num 0) a ∷ le (num 0) b ∷ []) refl a b (
        a_nonneg,
        (b_nonneg, tt),
      ) in
      let double_nonneg : whole 0 ≤ℚ whole 2 *ℚ a +ℚ b =
      le₂ ℚ_ordered (λ a b. num 0) (λ a b. num 2 ⊠ a ⊞ b) (λ a b. times (num 2) (num 0) a ∷ le (num 0) b ∷ []) refl a b
      (whole_nonneg 2, a_nonneg, (b_nonneg, tt)) in
      le₄ ℚ_ordered (λ a b A B. a ⊠ (a ⊠ (a ⊠ A)) ⊟ b ⊠ (b ⊠ (b ⊠ B))) (λ a b A B. num 8 ⊠ (a ⊠ A ⊟ b ⊠ B))
      (λ a b A B. times ((a ⊞ b) ⊠ b) ((a ⊟ b) ⊠ B) (a ⊠ A ⊟ b ⊠ B) ∷ times ((num 2 ⊠ a ⊞ b) ⊠ (a ⊠ A ⊟ b ⊠ B)) b a ∷ times (a ⊠ A ⊟ b ⊠ B)
      (num 3 ⊠ (a ⊠ a)) (num 8) ∷ [])
      refl a b (power a k) (power b k) (
        mul_nonneg (a +ℚ b) b sum_nonneg b_nonneg,
        gap_at_least k,
        (mul_nonneg (whole 2 *ℚ a +ℚ b) (gap (suc k)) double_nonneg (gap_nonneg (suc k)), in_order, (gap_nonneg (suc k), square_small, tt)),
      )

  -- two steps of the power and of the factorial
  part_step : (k c : ℕ) → 8 ≤ c * (suc (suc (suc k)) * suc (suc k))
      → gap (suc (suc (suc k))) *ℚ (pos 1 ÷ factorial (suc (suc (suc k)))) ≤ℚ whole c *ℚ (gap (suc k) *ℚ (pos 1 ÷ factorial (suc k)))
  part_step k c large =
      let q = suc (suc (suc k)) * suc (suc k) in
      let i = pos 1 ÷ (q * factorial (suc k)) in
      moved ℚ_ordered
      (ap (λ t. gap (suc (suc (suc k))) *ℚ (pos 1 ÷ t)) (mul_assoc (suc (suc (suc k))) (suc (suc k)) (factorial (suc k))))
      (ap (λ t. whole c *ℚ (gap (suc k) *ℚ t)) (over_part (pos 1) q (factorial (suc k)) (mul-pos (zero-lt-suc (suc (suc k))) (zero-lt-suc (suc k)))
      (factorial_positive (suc k))))
      (le₅ ℚ_ordered (λ e d i q c. e ⊠ i) (λ e d i q c. c ⊠ (d ⊠ (i ⊠ q))) (λ e d i q c. times i e (num 8 ⊠ d) ∷ times (d ⊠ i) (num 8) (c ⊠ q) ∷ []) refl
      (gap (suc (suc (suc k)))) (gap (suc k)) i (whole q) (whole c) (
        over_nonneg 1 (q * factorial (suc k)),
        gap_step k,
        (
          mul_nonneg (gap (suc k)) i (gap_nonneg (suc k))
              (over_nonneg 1 (q * factorial (suc k))),
          moved ℚ_ordered refl (int-mul (pos c) (pos q)) (whole_le 8 (c * q) large),
          tt,
        ),
      ))

  -- the difference of the j-th terms of the two sine sums
  abbrev part : ℕ → ℚ
  part j = gap (2 * j + 1) *ℚ (pos 1 ÷ factorial (2 * j + 1))

  part_nonneg : (j : ℕ) → whole 0 ≤ℚ part j
  part_nonneg j = mul_nonneg (gap (2 * j + 1)) (pos 1 ÷ factorial (2 * j + 1)) (gap_nonneg (2 * j + 1)) (over_nonneg 1 (factorial (2 * j + 1)))

  part_next : (j c : ℕ) → 8 ≤ c * (suc (suc (suc (2 * j))) * suc (suc (2 * j))) → part (suc j) ≤ℚ whole c *ℚ part j
  part_next j c large =
      let now : 2 * j + 1 ≡ suc (2 * j) = omega arith in
      let then : 2 * suc j + 1 ≡ suc (suc (suc (2 * j))) = omega arith in
      rw (now, then) (part_step (2 * j) c large)

  part_falls : (j : ℕ) → part (suc (suc j)) ≤ℚ part (suc j)
  part_falls j = moved ℚ_ordered refl (ring₁ ℚ_ring (λ x. num 1 ⊠ x) (λ x. x) refl (part (suc j)))
      (part_next (suc j) 1 (factors_large (2 * suc j) (omega arith)))

  first_part : part 0 ≡ a -ℚ b
  first_part = ring₂ ℚ_ring (λ a b. (a ⊠ num 1 ⊟ b ⊠ num 1) ⊠ num 1) (λ a b. a ⊟ b) refl a b

  difference_is : (n : ℕ) → sine_sum n a -ℚ sine_sum n b ≡ alternating part n
  unfolding sine_sum
  difference_is n =
      sum_to-difference (λ j. sign j *ℚ sine_term a j) (λ j. sign j *ℚ sine_term b j) n
      ∙ sum_to-same (λ j. sign j *ℚ sine_term a j -ℚ sign j *ℚ sine_term b j) (λ j. sign j *ℚ part j)
      (λ j. ring₄ ℚ_ring (λ s x y i. s ⊠ (x ⊠ i) ⊟ s ⊠ (y ⊠ i)) (λ s x y i. s ⊠ ((x ⊟ y) ⊠ i)) refl (sign j) (power a (2 * j + 1))
      (power b (2 * j + 1)) (pos 1 ÷ factorial (2 * j + 1))) n
      ∙ sum_alternating part n

  pub sine_sum_steep : (n : ℕ) → abs (sine_sum n a -ℚ sine_sum n b) ≤ℚ a -ℚ b
  sine_sum_steep n =
      subst₂ (λ s t. abs s ≤ℚ t) (sym (difference_is n)) first_part
      (within_first part (part_nonneg 0) (part_next 0 2 (lit≤ tt)) (record { nonneg = λ j. part_nonneg (suc j); falls = part_falls }) n)
