-- The sine sums are odd, and the cosine sums even.
use Rattle.std.proofs.Common.{◌≡◌, refl, ap, ◌∙◌, ℕ, zero, suc, ◌+◌, ◌*◌, pos, arith}
use Rattle.ring_solver.specs.Expression.{num, ◌⊠◌, opp}
use Rattle.ring_solver.proofs.Solver.{ring₂, ring₃}
use Rattle.rat_core.specs.Fraction.{ℚ, ◌÷◌, ◌*ℚ◌, neg_ℚ}
use Rattle.rat_core.proofs.Laws.{ℚ_ring}
use Rattle.trig_meaning.specs.PartialSums.{sign, power, factorial, sine_sum, cosine_sum}
use Rattle.trig_meaning.proofs.Sums.{sum_to-same, sum_to-neg}
use Rattle.trig_meaning.proofs.Alternating.{twice}

-- an odd number, as `power` counts it down
pub odd_is : (j : ℕ) → 2 * j + 1 ≡ suc (twice j)
odd_is zero = refl
odd_is (suc j) = let e : 2 * suc j + 1 ≡ suc (suc (2 * j + 1)) = omega arith in e ∙ ap (λ t. suc (suc t)) (odd_is j)

-- and an even one
pub even_is : (j : ℕ) → 2 * j ≡ twice j
even_is zero = refl
even_is (suc j) = let e : 2 * suc j ≡ suc (suc (2 * j)) = omega arith in e ∙ ap (λ t. suc (suc t)) (even_is j)

power-neg_twice : (z : ℚ) (j : ℕ) → power (neg_ℚ z) (suc (twice j)) ≡ neg_ℚ (power z (suc (twice j)))
power-neg_twice z zero = ring₂ ℚ_ring (λ z w. opp z ⊠ num 1) (λ z w. opp (z ⊠ num 1)) refl z z
power-neg_twice z (suc j) =
    ap (λ t. neg_ℚ z *ℚ (neg_ℚ z *ℚ t)) (power-neg_twice z j)
    ∙ ring₂ ℚ_ring (λ z p. opp z ⊠ (opp z ⊠ opp p)) (λ z p. opp (z ⊠ (z ⊠ p))) refl z (power z (suc (twice j)))

pub power-neg_odd : (z : ℚ) (j : ℕ) → power (neg_ℚ z) (2 * j + 1) ≡ neg_ℚ (power z (2 * j + 1))
power-neg_odd z j = rw (odd_is j) (power-neg_twice z j)

pub sine_sum-neg : (n : ℕ) (z : ℚ) → sine_sum n (neg_ℚ z) ≡ neg_ℚ (sine_sum n z)
unfolding sine_sum
sine_sum-neg n z =
    sum_to-same (λ j. sign j *ℚ (power (neg_ℚ z) (2 * j + 1) *ℚ (pos 1 ÷ factorial (2 * j + 1))))
    (λ j. neg_ℚ (sign j *ℚ (power z (2 * j + 1) *ℚ (pos 1 ÷ factorial (2 * j + 1)))))
    (λ j. ap (λ t. sign j *ℚ (t *ℚ (pos 1 ÷ factorial (2 * j + 1)))) (power-neg_odd z j)
    ∙ ring₃ ℚ_ring (λ s p q. s ⊠ (opp p ⊠ q)) (λ s p q. opp (s ⊠ (p ⊠ q))) refl (sign j) (power z (2 * j + 1)) (pos 1 ÷ factorial (2 * j + 1))) n
    ∙ sum_to-neg (λ j. sign j *ℚ (power z (2 * j + 1) *ℚ (pos 1 ÷ factorial (2 * j + 1)))) n

power-neg_even : (z : ℚ) (j : ℕ) → power (neg_ℚ z) (twice j) ≡ power z (twice j)
power-neg_even z zero = refl
power-neg_even z (suc j) =
    ap (λ t. neg_ℚ z *ℚ (neg_ℚ z *ℚ t)) (power-neg_even z j) ∙ ring₂ ℚ_ring (λ z p. opp z ⊠ (opp z ⊠ p)) (λ z p. z ⊠ (z ⊠ p)) refl z (power z (twice j))

pub cosine_sum-neg : (n : ℕ) (z : ℚ) → cosine_sum n (neg_ℚ z) ≡ cosine_sum n z
unfolding cosine_sum
cosine_sum-neg n z =
    sum_to-same (λ j. sign j *ℚ (power (neg_ℚ z) (2 * j) *ℚ (pos 1 ÷ factorial (2 * j)))) (λ j. sign j *ℚ (power z (2 * j) *ℚ (pos 1 ÷ factorial (2 * j))))
    (λ j. ap (λ t. sign j *ℚ (t *ℚ (pos 1 ÷ factorial (2 * j)))) (rw (even_is j) (power-neg_even z j))) n
