-- How large the sine sum and the cosine sum are, and how near to z and to 1, where z is at most 8/5 in size.
use Rattle.std.proofs.Common.{◌≡◌, refl, sym, ap, ◌∙◌, subst₂, ℕ, zero, suc, ◌*◌, ◌≤◌, pos, [], ◌∷◌, arith, lit<, not-suc-le-zero}
use Rattle.ring_solver.specs.Expression.{num, ◌⊟◌, ◌⊠◌, opp}
use Rattle.ring_solver.specs.Ordered.{times, same}
use Rattle.ring_solver.proofs.Solver.{ring₁, ring₂}
use Rattle.ring_solver.proofs.Certificate.{le₂, le₃, moved}
use Rattle.rat_core.specs.Fraction.{ℚ, ◌÷◌, whole, ◌-ℚ◌, ◌*ℚ◌, neg_ℚ, ◌≤ℚ◌, at_most, abs}
use Rattle.rat_core.proofs.Laws.{ℚ_ring, ℚ_ordered, le_trans, mul_nonneg, over-mul}
use Rattle.rat_core.proofs.Order.{whole_nonneg, over_nonneg, abs_cases, abs-neg, abs_of_nonneg, mul_mono_both}
use Rattle.rat_core.proofs.Sizes.{abs_nonneg, abs-square}
use Rattle.trig_meaning.specs.PartialSums.{power, factorial, sine_sum, cosine_sum}
use Rattle.trig_meaning.proofs.Alternating.{alternating, IsFalling, falling_tail, sum_alternating, between, within_first}
use Rattle.trig_meaning.proofs.Odd.{sine_sum-neg, cosine_sum-neg}
use Rattle.trig_meaning.proofs.Tail.{sine_term, sine_sum_alternating, sine_terms_fall, power_nonneg, two_steps}

-- the size of the j-th term of the cosine series, z^(2j) / (2j)!
abbrev cosine_term : ℚ → ℕ → ℚ
cosine_term z j = power z (2 * j) *ℚ (pos 1 ÷ factorial (2 * j))

cosine_sum_alternating : (n : ℕ) (z : ℚ) → cosine_sum n z ≡ alternating (cosine_term z) n
unfolding cosine_sum
cosine_sum_alternating n z = sum_alternating (cosine_term z) n

square_below_four : (pos 8 ÷ 5) *ℚ (pos 8 ÷ 5) ≤ℚ whole 4
unfolding at_most ◌*ℚ◌ ◌÷◌
square_below_four = record { le = tt }

-- ---- where 0 ≤ z ≤ 8/5

module _ (z : ℚ) (nonneg : whole 0 ≤ℚ z) (small : z ≤ℚ pos 8 ÷ 5) where
  square_small : z *ℚ z ≤ℚ whole 4
  square_small = le_trans (z *ℚ z) ((pos 8 ÷ 5) *ℚ (pos 8 ÷ 5)) (whole 4)
      (mul_mono_both z (pos 8 ÷ 5) z (pos 8 ÷ 5) nonneg (over_nonneg 8 5) small small) square_below_four

  -- the terms of the cosine series fall from the second one on
  cosine_terms_fall : IsFalling (λ j. cosine_term z (suc j))
  cosine_terms_fall =
      record {
        nonneg = λ j. mul_nonneg (power z (2 * suc j)) (pos 1 ÷ factorial (2 * suc j)) (power_nonneg z nonneg (2 * suc j))
            (over_nonneg 1 (factorial (2 * suc j)));
        falls = λ j.
            let now : 2 * suc j ≡ suc (suc (2 * j)) = omega arith in
            let then : 2 * suc (suc j) ≡ suc (suc (suc (suc (2 * j)))) = omega arith in
            rw (now, then) (two_steps z nonneg small (suc (suc (2 * j))) (omega arith));
      }

  second_term : whole 2 *ℚ cosine_term z 1 ≡ z *ℚ z
  second_term =
      ring₂ ℚ_ring (λ z i. num 2 ⊠ (z ⊠ (z ⊠ num 1) ⊠ i)) (λ z i. z ⊠ z ⊠ (i ⊠ num 2)) refl z (pos 1 ÷ 2)
      ∙ ap (λ t. z *ℚ z *ℚ t) (over-mul (pos 1) 2 (lit< tt)) ∙ ring₁ ℚ_ring (λ x. x ⊠ num 1) (λ x. x) refl (z *ℚ z)

  third_term : whole 6 *ℚ sine_term z 1 ≡ z *ℚ z *ℚ z
  third_term =
      ring₂ ℚ_ring (λ z i. num 6 ⊠ (z ⊠ (z ⊠ (z ⊠ num 1)) ⊠ i)) (λ z i. z ⊠ z ⊠ z ⊠ (i ⊠ num 6)) refl z (pos 1 ÷ 6)
      ∙ ap (λ t. z *ℚ z *ℚ z *ℚ t) (over-mul (pos 1) 6 (lit< tt)) ∙ ring₁ ℚ_ring (λ x. x ⊠ num 1) (λ x. x) refl (z *ℚ z *ℚ z)

  cosine_small : (n : ℕ) → abs (cosine_sum n z) ≤ℚ whole 1
  cosine_small n =
      subst₂ (λ s t. abs s ≤ℚ t) (sym (cosine_sum_alternating n z)) (ring₁ ℚ_ring (λ x. num 1 ⊠ num 1) (λ x. num 1) refl z)
      (within_first (cosine_term z) first_nonneg second_small cosine_terms_fall n)
    where
      first_nonneg : whole 0 ≤ℚ whole 1 *ℚ (pos 1 ÷ 1)
      first_nonneg = mul_nonneg (whole 1) (whole 1) (whole_nonneg 1) (whole_nonneg 1)

      second_small : cosine_term z 1 ≤ℚ whole 2 *ℚ (whole 1 *ℚ whole 1)
      second_small =
          le₃ ℚ_ordered (λ c s q. c) (λ c s q. num 2 ⊠ (num 1 ⊠ num 1))
          (λ c s q. times q s (num 4) ∷ same (num 1) c (q ⊠ s) ∷ same (num 2) (q ⊠ num 2) (num 1) ∷ []) refl
          (cosine_term z 1) (z *ℚ z) (pos 1 ÷ 2) (over_nonneg 1 2, square_small, (half, (over-mul (pos 1) 2 (lit< tt), tt)))
        where
          half : cosine_term z 1 ≡ (pos 1 ÷ 2) *ℚ (z *ℚ z)
          half = ring₂ ℚ_ring (λ z i. z ⊠ (z ⊠ num 1) ⊠ i) (λ z i. i ⊠ (z ⊠ z)) refl z (pos 1 ÷ 2)

  sine_at_most : (n : ℕ) → abs (sine_sum n z) ≤ℚ pos 8 ÷ 5
  sine_at_most n =
      let b = between (sine_term z) (sine_terms_fall z nonneg small) n in
      let first : sine_term z 0 ≡ z = ring₁ ℚ_ring (λ z. z ⊠ num 1 ⊠ num 1) (λ z. z) refl z in
      le_trans (abs (sine_sum n z)) z (pos 8 ÷ 5)
      (moved ℚ_ordered (sym (ap abs (sine_sum_alternating n z) ∙ abs_of_nonneg (alternating (sine_term z) n) b.0)) first b.1) small

  cosine_from_one_up : (n : ℕ) → whole 2 *ℚ abs (cosine_sum (suc n) z -ℚ whole 1) ≤ℚ z *ℚ z
  cosine_from_one_up n =
      let r = alternating (λ j. cosine_term z (suc j)) n in
      let b = between (λ j. cosine_term z (suc j)) cosine_terms_fall n in
      let rest : abs (cosine_sum (suc n) z -ℚ whole 1) ≡ r =
      ap (λ t. abs (t -ℚ whole 1)) (cosine_sum_alternating (suc n) z)
      ∙ ap abs (ring₁ ℚ_ring (λ r. num 1 ⊠ num 1 ⊟ r ⊟ num 1) (λ r. opp r) refl r) ∙ abs-neg r ∙ abs_of_nonneg r b.0 in
      moved ℚ_ordered (ap (λ t. whole 2 *ℚ t) (sym rest)) second_term
      (le₂ ℚ_ordered (λ r c. num 2 ⊠ r) (λ r c. num 2 ⊠ c) (λ r c. times (num 2) r c ∷ []) refl r (cosine_term z 1) (whole_nonneg 2, b.1, tt))

  sine_from_line_up : (n : ℕ) → whole 6 *ℚ abs (sine_sum (suc n) z -ℚ z) ≤ℚ z *ℚ z *ℚ z
  sine_from_line_up n =
      let r = alternating (λ j. sine_term z (suc j)) n in
      let b = between (λ j. sine_term z (suc j)) (falling_tail (sine_term z) (sine_terms_fall z nonneg small)) n in
      let rest : abs (sine_sum (suc n) z -ℚ z) ≡ r =
      ap (λ t. abs (t -ℚ z)) (sine_sum_alternating (suc n) z)
      ∙ ap abs (ring₂ ℚ_ring (λ r z. z ⊠ num 1 ⊠ num 1 ⊟ r ⊟ z) (λ r z. opp r) refl r z) ∙ abs-neg r ∙ abs_of_nonneg r b.0 in
      moved ℚ_ordered (ap (λ t. whole 6 *ℚ t) (sym rest)) third_term
      (le₂ ℚ_ordered (λ r c. num 6 ⊠ r) (λ r c. num 6 ⊠ c) (λ r c. times (num 6) r c ∷ []) refl r (sine_term z 1) (whole_nonneg 6, b.1, tt))

-- ---- where z is at most 8/5 in size

cosine_sum-abs : (n : ℕ) (z : ℚ) → cosine_sum n (abs z) ≡ cosine_sum n z
cosine_sum-abs n z = abs_cases (λ a. cosine_sum n a ≡ cosine_sum n z) z (λ _. refl) (λ _. cosine_sum-neg n z)

sine_size-abs : (n : ℕ) (z : ℚ) → abs (sine_sum n (abs z)) ≡ abs (sine_sum n z)
sine_size-abs n z = abs_cases (λ a. abs (sine_sum n a) ≡ abs (sine_sum n z)) z (λ _. refl) (λ _. ap abs (sine_sum-neg n z) ∙ abs-neg (sine_sum n z))

sine_line-abs : (n : ℕ) (z : ℚ) → abs (sine_sum n (abs z) -ℚ abs z) ≡ abs (sine_sum n z -ℚ z)
sine_line-abs n z =
    abs_cases (λ a. abs (sine_sum n a -ℚ a) ≡ abs (sine_sum n z -ℚ z)) z (λ _. refl)
    (λ _. ap abs (ap (λ t. t -ℚ neg_ℚ z) (sine_sum-neg n z) ∙ ring₂ ℚ_ring (λ s z. opp s ⊟ opp z) (λ s z. opp (s ⊟ z)) refl (sine_sum n z) z)
    ∙ abs-neg (sine_sum n z -ℚ z))

module _ (n : ℕ) (z : ℚ) (small : abs z ≤ℚ pos 8 ÷ 5) where
  pub cosine_sum_small : abs (cosine_sum n z) ≤ℚ whole 1
  cosine_sum_small = moved ℚ_ordered (ap abs (cosine_sum-abs n z)) refl (cosine_small (abs z) (abs_nonneg z) small n)

  pub sine_sum_small : abs (sine_sum n z) ≤ℚ pos 8 ÷ 5
  sine_sum_small = moved ℚ_ordered (sine_size-abs n z) refl (sine_at_most (abs z) (abs_nonneg z) small n)

pub cosine_from_one : (n : ℕ) → 1 ≤ n → (z : ℚ) → abs z ≤ℚ pos 8 ÷ 5 → whole 2 *ℚ abs (cosine_sum n z -ℚ whole 1) ≤ℚ z *ℚ z
cosine_from_one zero h z small = absurd (not-suc-le-zero h)
cosine_from_one (suc n) h z small =
    moved ℚ_ordered (ap (λ t. whole 2 *ℚ abs (t -ℚ whole 1)) (cosine_sum-abs (suc n) z)) (abs-square z) (cosine_from_one_up (abs z) (abs_nonneg z) small n)

pub sine_from_line : (n : ℕ) → 1 ≤ n → (z : ℚ) → abs z ≤ℚ pos 8 ÷ 5 → whole 6 *ℚ abs (sine_sum n z -ℚ z) ≤ℚ z *ℚ z *ℚ abs z
sine_from_line zero h z small = absurd (not-suc-le-zero h)
sine_from_line (suc n) h z small =
    moved ℚ_ordered (ap (λ t. whole 6 *ℚ t) (sine_line-abs (suc n) z)) (ap (λ t. t *ℚ abs z) (abs-square z)) (sine_from_line_up (abs z) (abs_nonneg z) small n)
