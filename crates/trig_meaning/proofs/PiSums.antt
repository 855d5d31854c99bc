-- The approximations of pi come to lie between two fractions: both series alternate in sign and fall.
use Rattle.std.proofs.Common.{◌≡◌, refl, sym, subst, subst₂, ℕ, suc, ◌+◌, ◌*◌, ◌^◌, ◌<◌, ◌≤◌, pos, [], ◌∷◌, arith, lit<, mul-pos}
use Rattle.std.proofs.Math.Nat.{one-le-pow, pow-le-pow_right, mul-le-mul}
use Rattle.std.proofs.lemmas.Int.{ints}
use Rattle.ring_solver.specs.Expression.{num, ◌⊟◌, ◌⊠◌}
use Rattle.ring_solver.specs.Ordered.{times, same}
use Rattle.ring_solver.proofs.Certificate.{le₂, le₄}
use Rattle.rat_core.specs.Fraction.{ℚ, ◌÷◌, whole, ◌+ℚ◌, ◌-ℚ◌, ◌*ℚ◌, neg_ℚ, ◌≤ℚ◌, at_most}
use Rattle.rat_core.proofs.Laws.{ℚ_ordered, over-mul, over_le, le_trans}
use Rattle.rat_core.proofs.Order.{over_nonneg, whole_nonneg, mul_mono_both}
use Rattle.trig_meaning.specs.PartialSums.{arctan_sum, pi_sum}
use Rattle.trig_meaning.specs.FromSomeOn.{FromSomeOn}
use Rattle.trig_meaning.proofs.Alternating.{alternating, IsFalling, sum_alternating, at_most_even, at_least_odd}

-- the terms of the arctangent of 1/k, without their signs
abbrev pub arctan_term : ℕ → ℕ → ℚ
arctan_term k j = pos 1 ÷ ((2 * j + 1) * k ^ (2 * j + 1))

pub arctan_falls : (k : ℕ) → 0 < k → IsFalling (arctan_term k)
arctan_falls k h =
    record {
      nonneg = λ j. over_nonneg 1 ((2 * j + 1) * k ^ (2 * j + 1));
      falls = λ j.
          let odd : 0 < 2 * j + 1 = omega arith in
          let more : 2 * j + 1 ≤ 2 * suc j + 1 = omega arith in
          let powers : k ^ (2 * j + 1) ≤ k ^ (2 * suc j + 1) = pow-le-pow_right h more in
          let products : (2 * j + 1) * k ^ (2 * j + 1) ≤ (2 * suc j + 1) * k ^ (2 * suc j + 1) = mul-le-mul more powers in
          let positive : 0 < (2 * j + 1) * k ^ (2 * j + 1) = mul-pos odd (one-le-pow (2 * j + 1) k h) in
          over_le (pos 1) (pos 1) ((2 * suc j + 1) * k ^ (2 * suc j + 1)) ((2 * j + 1) * k ^ (2 * j + 1)) (omega arith) positive (omega (arith, ints));
    }

pub arctan_alternates : (k n : ℕ) → arctan_sum k n ≡ alternating (arctan_term k) n
unfolding arctan_sum
arctan_alternates k n = sum_alternating (arctan_term k) n

-- pi's approximations are at least this one, which ends with a term taken away from the first series ..
unfoldable pub lower : ℚ
lower = whole 16 *ℚ alternating (arctan_term 5) 15 -ℚ whole 4 *ℚ alternating (arctan_term 239) 4

-- .. and at most this one, which ends with a term added
unfoldable pub upper : ℚ
upper = whole 16 *ℚ alternating (arctan_term 5) 16 -ℚ whole 4 *ℚ alternating (arctan_term 239) 5

pi_of : (n : ℕ) → pi_sum n ≡ whole 16 *ℚ alternating (arctan_term 5) n -ℚ whole 4 *ℚ alternating (arctan_term 239) n
unfolding pi_sum
pi_of n = subst₂ (λ a b. whole 16 *ℚ arctan_sum 5 n -ℚ whole 4 *ℚ arctan_sum 239 n ≡ whole 16 *ℚ a -ℚ whole 4 *ℚ b) (arctan_alternates 5 n)
    (arctan_alternates 239 n) refl

combined : (a a' b b' : ℚ) → a ≤ℚ a' → b' ≤ℚ b → whole 16 *ℚ a -ℚ whole 4 *ℚ b ≤ℚ whole 16 *ℚ a' -ℚ whole 4 *ℚ b'
combined a a' b b' h k =
    le₄ ℚ_ordered (λ a a' b b'. num 16 ⊠ a ⊟ num 4 ⊠ b) (λ a a' b b'. num 16 ⊠ a' ⊟ num 4 ⊠ b')
    (λ a a' b b'. times (num 16) a a' ∷ times (num 4) b' b ∷ []) refl
    a a' b b' (whole_nonneg 16, h, (whole_nonneg 4, k, tt))

pub pi_at_least : (n : ℕ) → 16 ≤ n → lower ≤ℚ pi_sum n
unfolding lower
pi_at_least n h =
    subst (λ t. lower ≤ℚ t) (sym (pi_of n))
    (combined _ _ _ _ (at_least_odd 7 n (arctan_term 5) (arctan_falls 5 (lit< tt)) (omega arith))
    (at_most_even 2 n (arctan_term 239) (arctan_falls 239 (lit< tt)) (omega arith)))

pub pi_at_most : (n : ℕ) → 16 ≤ n → pi_sum n ≤ℚ upper
unfolding upper
pi_at_most n h =
    subst (λ t. t ≤ℚ upper) (sym (pi_of n))
    (combined _ _ _ _ (at_most_even 8 n (arctan_term 5) (arctan_falls 5 (lit< tt)) (omega arith))
    (at_least_odd 2 n (arctan_term 239) (arctan_falls 239 (lit< tt)) (omega arith)))

-- pi is from 3 to 16/5
lower_large : whole 3 ≤ℚ lower
unfolding lower at_most ◌+ℚ◌ ◌*ℚ◌ ◌÷◌ neg_ℚ
lower_large = record { le = tt }

upper_small : upper ≤ℚ pos 16 ÷ 5
unfolding upper at_most ◌+ℚ◌ ◌*ℚ◌ ◌÷◌ neg_ℚ
upper_small = record { le = tt }

pub pi_at_least_three : (n : ℕ) → 16 ≤ n → whole 3 ≤ℚ pi_sum n
pi_at_least_three n h = le_trans (whole 3) lower (pi_sum n) lower_large (pi_at_least n h)

pub pi_small : (n : ℕ) → 16 ≤ n → pi_sum n ≤ℚ pos 16 ÷ 5
pi_small n h = le_trans (pi_sum n) upper (pos 16 ÷ 5) (pi_at_most n h) upper_small

pub five_pi_at_most_sixteen : (n : ℕ) → 16 ≤ n → whole 5 *ℚ pi_sum n ≤ℚ whole 16
five_pi_at_most_sixteen n h =
    le₂ ℚ_ordered (λ p s. num 5 ⊠ p) (λ p s. num 16) (λ p s. times (num 5) p s ∷ same (num 1) (s ⊠ num 5) (num 16) ∷ []) refl
    (pi_sum n) (pos 16 ÷ 5) (whole_nonneg 5, pi_small n h, (over-mul (pos 16) 5 (lit< tt), tt))

pub pi_sum_nonneg : (n : ℕ) → 16 ≤ n → whole 0 ≤ℚ pi_sum n
pi_sum_nonneg n h = le_trans (whole 0) (whole 3) (pi_sum n) (whole_nonneg 3) (pi_at_least_three n h)

pub pi_nonneg : FromSomeOn (λ n. whole 0 ≤ℚ pi_sum n)
pi_nonneg = (16, pi_sum_nonneg)

half_of_pi : (pos 16 ÷ 5) *ℚ (pos 1 ÷ 2) ≤ℚ pos 8 ÷ 5
unfolding at_most ◌*ℚ◌ ◌÷◌
half_of_pi = record { le = tt }

-- pi times a fraction from 0 to 1/2
pub quarter_small : (n : ℕ) → 16 ≤ n → (t : ℚ) → whole 0 ≤ℚ t → t ≤ℚ pos 1 ÷ 2 → pi_sum n *ℚ t ≤ℚ pos 8 ÷ 5
quarter_small n h t low high =
    le_trans (pi_sum n *ℚ t) ((pos 16 ÷ 5) *ℚ (pos 1 ÷ 2)) (pos 8 ÷ 5)
    (mul_mono_both (pi_sum n) (pos 16 ÷ 5) t (pos 1 ÷ 2) low (over_nonneg 16 5) (pi_small n h) high) half_of_pi
