-- The sine series by Horner's scheme over a quarter of the square: z·(c0 − w·(c1 − w·(c2 − ..))) with 4w = z².
use Rattle.std.proofs.Common.{◌≡◌, refl, sym, ap, ap₂, ◌∙◌, ℕ, zero, suc, ◌+◌, ◌-◌, ◌*◌, ◌<◌, pos, arith}
use Rattle.ring_solver.specs.Expression.{num, ◌⊞◌, ◌⊟◌, ◌⊠◌}
use Rattle.ring_solver.proofs.Solver.{ring₁, ring₂, ring₄, ring₅}
use Rattle.rat_core.specs.Fraction.{ℚ, ◌÷◌, whole, ◌+ℚ◌, ◌-ℚ◌, ◌*ℚ◌}
use Rattle.rat_core.proofs.Laws.{ℚ_ring, over-product}
use Rattle.trig_meaning.specs.PartialSums.{power, factorial, sine_sum}
use Rattle.trig_meaning.proofs.Alternating.{alternating}
use Rattle.trig_meaning.proofs.Tail.{sine_term, sine_sum_alternating, factorial_positive}

-- 1 / (2k·(2k + 1))
abbrev pub factor : ℕ → ℚ
factor k = pos 1 ÷ (2 * k * (2 * k + 1))

-- 4^j / (2j + 1)!
abbrev pub coefficient : ℕ → ℚ
coefficient zero = whole 1
coefficient (suc j) = coefficient j *ℚ (whole 4 *ℚ factor (suc j))

-- coefficient j − w·(coefficient (j + 1) − w·(..)), with n + 1 coefficients
abbrev pub horner : ℚ → ℕ → ℕ → ℚ
horner w j zero = coefficient j
horner w j (suc n) = coefficient j -ℚ w *ℚ horner w (suc j) n

sine_term_next : (z : ℚ) (j : ℕ) → sine_term z (suc j) ≡ sine_term z j *ℚ (z *ℚ z *ℚ factor (suc j))
sine_term_next z j =
    let k = 2 * j + 1 in
    let c = 2 * suc j * (2 * suc j + 1) in
    let odd : 2 * suc j + 1 ≡ suc (suc (2 * j + 1)) = omega arith in
    let product : suc (suc (2 * j + 1)) * (suc (2 * j + 1) * factorial (2 * j + 1)) ≡ factorial (2 * j + 1) * (2 * suc j * (2 * suc j + 1)) = omega arith in
    let positive : 0 < 2 * suc j * (2 * suc j + 1) = omega arith in
    ap (λ m. power z m *ℚ (pos 1 ÷ factorial m)) odd
    ∙ ap (λ d. z *ℚ (z *ℚ power z k) *ℚ (pos 1 ÷ d)) product
    ∙ ap (λ t. z *ℚ (z *ℚ power z k) *ℚ t) (sym (over-product (pos 1) (pos 1) (factorial k) c (factorial_positive k) positive))
    ∙ ring₄ ℚ_ring (λ z p i c. z ⊠ (z ⊠ p) ⊠ (i ⊠ c)) (λ z p i c. p ⊠ i ⊠ (z ⊠ z ⊠ c)) refl z (power z k) (pos 1 ÷ factorial k) (factor (suc j))

-- the terms of the series, by the coefficients
sine_term_is : (z w : ℚ) → whole 4 *ℚ w ≡ z *ℚ z → (j : ℕ) → sine_term z j ≡ z *ℚ power w j *ℚ coefficient j
sine_term_is z w quarter zero = ring₁ ℚ_ring (λ z. z ⊠ num 1 ⊠ num 1) (λ z. z ⊠ num 1 ⊠ num 1) refl z
sine_term_is z w quarter (suc j) =
    sine_term_next z j
    ∙ ap₂ (λ t s. t *ℚ (s *ℚ factor (suc j))) (sine_term_is z w quarter j) (sym quarter)
    ∙ ring₅ ℚ_ring (λ z p c w f. z ⊠ p ⊠ c ⊠ (num 4 ⊠ w ⊠ f)) (λ z p c w f. z ⊠ (w ⊠ p) ⊠ (c ⊠ (num 4 ⊠ f))) refl
    z (power w j) (coefficient j) w (factor (suc j))

-- an alternating sum of such terms
alternating_horner : (w a : ℚ) (f : ℕ → ℚ) (j n : ℕ) → ((i : ℕ) → f i ≡ a *ℚ power w i *ℚ coefficient (j + i)) → alternating f n ≡ a *ℚ horner w j n
alternating_horner w a f j zero h =
    let plain : j + 0 ≡ j = omega arith in
    h 0 ∙ ap (λ k. a *ℚ whole 1 *ℚ coefficient k) plain ∙ ring₂ ℚ_ring (λ a c. a ⊠ num 1 ⊠ c) (λ a c. a ⊠ c) refl a (coefficient j)
alternating_horner w a f j (suc n) h =
    let later : (i : ℕ) → f (suc i) ≡ a *ℚ w *ℚ power w i *ℚ coefficient (suc j + i) =
    λ i. let moved : j + suc i ≡ suc j + i = omega arith in
    h (suc i) ∙ ap (λ k. a *ℚ (w *ℚ power w i) *ℚ coefficient k) moved
    ∙ ring₄ ℚ_ring (λ a w p c. a ⊠ (w ⊠ p) ⊠ c) (λ a w p c. a ⊠ w ⊠ p ⊠ c) refl a w (power w i) (coefficient (suc j + i))
    in
    let plain : j + 0 ≡ j = omega arith in
    ap₂ ◌-ℚ◌ (h 0 ∙ ap (λ k. a *ℚ whole 1 *ℚ coefficient k) plain) (alternating_horner w (a *ℚ w) (λ i. f (suc i)) (suc j) n later)
    ∙ ring₄ ℚ_ring (λ a c w x. a ⊠ num 1 ⊠ c ⊟ a ⊠ w ⊠ x) (λ a c w x. a ⊠ (c ⊟ w ⊠ x)) refl a (coefficient j) w (horner w (suc j) n)

pub sine_sum_horner : (n : ℕ) (z w : ℚ) → whole 4 *ℚ w ≡ z *ℚ z → sine_sum n z ≡ z *ℚ horner w 0 n
sine_sum_horner n z w quarter = sine_sum_alternating n z ∙ alternating_horner w z (sine_term z) 0 n terms
  where
    terms : (i : ℕ) → sine_term z i ≡ z *ℚ power w i *ℚ coefficient (0 + i)
    terms i =
        let plain : i ≡ 0 + i = omega arith in
        sine_term_is z w quarter i ∙ ap (λ k. z *ℚ power w i *ℚ coefficient k) plain

-- ---- two chains

-- coefficient j + u·(coefficient (j + 2) + u·(..)), with n + 1 coefficients
abbrev pub chain : ℚ → ℕ → ℕ → ℚ
chain u j zero = coefficient j
chain u j (suc n) = coefficient j +ℚ u *ℚ chain u (suc (suc j)) n

-- the scheme over w is two chains over the square of w
horner_chains : (w : ℚ) (j n : ℕ) → horner w j (suc (2 * n)) ≡ chain (w *ℚ w) j n -ℚ w *ℚ chain (w *ℚ w) (suc j) n
horner_chains w j zero = refl
horner_chains w j (suc n) =
    let longer : 2 * suc n ≡ suc (suc (2 * n)) = omega arith in
    let u = w *ℚ w in
    ap (λ m. horner w j (suc m)) longer
    ∙ ap (λ t. coefficient j -ℚ w *ℚ (coefficient (suc j) -ℚ w *ℚ t)) (horner_chains w (suc (suc j)) n)
    ∙ ring₅ ℚ_ring (λ w c d e o. c ⊟ w ⊠ (d ⊟ w ⊠ (e ⊟ w ⊠ o))) (λ w c d e o. (c ⊞ w ⊠ w ⊠ e) ⊟ w ⊠ (d ⊞ w ⊠ w ⊠ o)) refl
    w (coefficient j) (coefficient (suc j)) (chain u (suc (suc j)) n) (chain u (suc (suc (suc j))) n)

pub sine_sum_chains : (z w : ℚ) → whole 4 *ℚ w ≡ z *ℚ z → sine_sum 11 z ≡ z *ℚ (chain (w *ℚ w) 0 5 -ℚ w *ℚ chain (w *ℚ w) 1 5)
sine_sum_chains z w quarter = sine_sum_horner 11 z w quarter ∙ ap (λ t. z *ℚ t) (horner_chains w 0 5)

-- one coefficient more in each, from the inside
pub even_next : (u : ℚ) (j : ℕ) → j < 5 → coefficient (8 - 2 * j) +ℚ u *ℚ chain u (10 - 2 * j) j ≡ chain u (10 - 2 * (j + 1)) (j + 1)
even_next u j h =
    let before : 10 - 2 * j ≡ suc (suc (8 - 2 * j)) = omega arith in
    let after : 10 - 2 * (j + 1) ≡ 8 - 2 * j = omega arith in
    let later : j + 1 ≡ suc j = omega arith in
    rw (after, later, before) refl

pub odd_next : (u : ℚ) (j : ℕ) → j < 5 → coefficient (9 - 2 * j) +ℚ u *ℚ chain u (11 - 2 * j) j ≡ chain u (11 - 2 * (j + 1)) (j + 1)
odd_next u j h =
    let before : 11 - 2 * j ≡ suc (suc (9 - 2 * j)) = omega arith in
    let after : 11 - 2 * (j + 1) ≡ 9 - 2 * j = omega arith in
    let later : j + 1 ≡ suc j = omega arith in
    rw (after, later, before) refl
