-- The terms z^k / k! of the exponential series: they add up as the binomial theorem says, and where 0 ≤ z ≤ 16/5 each is at
-- most half of the one before it from the sixth on, so that the rest of the series is at most its first term.
use Rattle.std.proofs.Common.{◌≡◌, refl, sym, ap, ap₂, ◌∙◌, subst, ℕ, zero, suc, ◌+◌, ◌-◌, ◌*◌, ◌≤◌, pos, [], ◌∷◌, arith, lit<, zero-lt-suc}
use Rattle.ring_solver.specs.Expression.{var, num, ◌⊞◌, ◌⊟◌, ◌⊠◌}
use Rattle.ring_solver.specs.Ordered.{le, times, same}
use Rattle.ring_solver.proofs.Solver.{ring₁, ring₂, ring₃, ring₄, ring₅}
use Rattle.ring_solver.proofs.Certificate.{le₃, certified}
use Rattle.rat_core.specs.Fraction.{ℚ, ◌÷◌, whole, ◌+ℚ◌, ◌-ℚ◌, ◌*ℚ◌, ◌≤ℚ◌, abs}
use Rattle.rat_core.proofs.Laws.{ℚ_ring, ℚ_ordered, int-add, over-mul, le_refl, le_trans, mul_nonneg}
use Rattle.rat_core.proofs.Order.{whole_le, whole_nonneg, over_nonneg, over_part, cancel, cancel_le, mul_mono_both, abs_of_nonneg, abs-mul}
use Rattle.trig_meaning.specs.PartialSums.{sum_to, power, factorial}
use Rattle.trig_meaning.proofs.Products.{degree, diagonal, diagonal-same, diagonal-add, diagonal-level, diagonal-times, diagonal-last}
use Rattle.trig_meaning.proofs.Tail.{power_nonneg, power_mono, factorial_positive}

-- z^k / k!
abbrev pub exponential_term : ℚ → ℕ → ℚ
exponential_term z k = power z k *ℚ (pos 1 ÷ factorial k)

-- the sum of z^k / k! over k = 0..n
abbrev pub exponential_sum : ℚ → ℕ → ℚ
exponential_sum z n = sum_to (exponential_term z) n

pub exponential_term-next : (z : ℚ) (k : ℕ) → whole (suc k) *ℚ exponential_term z (suc k) ≡ z *ℚ exponential_term z k
exponential_term-next z k =
    ring₄ ℚ_ring (λ w z p i. w ⊠ (z ⊠ p ⊠ i)) (λ w z p i. z ⊠ (p ⊠ (i ⊠ w))) refl (whole (suc k)) z (power z k) (pos 1 ÷ (suc k * factorial k))
    ∙ ap (λ t. z *ℚ (power z k *ℚ t)) (over_part (pos 1) (suc k) (factorial k) (zero-lt-suc k) (factorial_positive k))

-- ---- the binomial theorem

degree-is : (i j : ℕ) → degree i j ≡ i + j
degree-is zero j = omega arith
degree-is (suc i) j = let e = degree-is i j in omega (arith, e)

whole-degree : (i j : ℕ) → whole (degree i j) ≡ whole i +ℚ whole j
whole-degree i j = ap whole (degree-is i j) ∙ int-add (pos i) (pos j)

pub binomial : (a b : ℚ) (m : ℕ) → diagonal (λ i j. exponential_term a i *ℚ exponential_term b j) m ≡ exponential_term (a +ℚ b) m
binomial a b zero = ring₁ ℚ_ring (λ x. num 1 ⊠ num 1 ⊠ (num 1 ⊠ num 1)) (λ x. num 1 ⊠ num 1) refl a
binomial a b (suc m) =
    let H : ℕ → ℕ → ℚ = λ i j. exponential_term a i *ℚ exponential_term b j in
    let D = diagonal H m in
    cancel (suc m) (zero-lt-suc m) (diagonal H (suc m)) (exponential_term (a +ℚ b) (suc m))
    (ring₂ ℚ_ring (λ x y. x ⊠ y) (λ x y. y ⊠ x) refl (diagonal H (suc m)) (whole (suc m))
    ∙ sym (diagonal-level whole H (suc m))
    ∙ diagonal-same (λ i j. whole (degree i j) *ℚ H i j) (λ i j. whole i *ℚ H i j +ℚ whole j *ℚ H i j)
    (λ i j. ap (λ t. t *ℚ H i j) (whole-degree i j)
    ∙ ring₃ ℚ_ring (λ x y h. (x ⊞ y) ⊠ h) (λ x y h. x ⊠ h ⊞ y ⊠ h) refl (whole i) (whole j) (H i j)) (suc m)
    ∙ diagonal-add (λ i j. whole i *ℚ H i j) (λ i j. whole j *ℚ H i j) (suc m)
    ∙ ap₂ ◌+ℚ◌ (ap (λ t. whole 0 *ℚ H 0 (suc m) +ℚ t) (by_first m))
    (diagonal-last (λ i j. whole j *ℚ H i j) m ∙ ap (λ t. t +ℚ whole 0 *ℚ H (suc m) 0) (by_second m))
    ∙ ring₅ ℚ_ring (λ a b x y d. num 0 ⊠ x ⊞ a ⊠ d ⊞ (b ⊠ d ⊞ num 0 ⊠ y)) (λ a b x y d. (a ⊞ b) ⊠ d) refl a b (H 0 (suc m)) (H (suc m) 0) D
    ∙ ap (λ t. (a +ℚ b) *ℚ t) (binomial a b m)
    ∙ sym (exponential_term-next (a +ℚ b) m)
    ∙ ring₂ ℚ_ring (λ x y. y ⊠ x) (λ x y. x ⊠ y) refl (exponential_term (a +ℚ b) (suc m)) (whole (suc m)))
  where
    by_first : (m : ℕ) → diagonal (λ i j. whole (suc i) *ℚ (exponential_term a (suc i) *ℚ exponential_term b j)) m
        ≡ a *ℚ diagonal (λ i j. exponential_term a i *ℚ exponential_term b j) m
    by_first m =
        let H : ℕ → ℕ → ℚ = λ i j. exponential_term a i *ℚ exponential_term b j in
        diagonal-same (λ i j. whole (suc i) *ℚ H (suc i) j) (λ i j. a *ℚ H i j)
        (λ i j. ring₃ ℚ_ring (λ w x y. w ⊠ (x ⊠ y)) (λ w x y. w ⊠ x ⊠ y) refl (whole (suc i)) (exponential_term a (suc i)) (exponential_term b j)
        ∙ ap (λ t. t *ℚ exponential_term b j) (exponential_term-next a i)
        ∙ ring₃ ℚ_ring (λ w x y. w ⊠ x ⊠ y) (λ w x y. w ⊠ (x ⊠ y)) refl a (exponential_term a i) (exponential_term b j)) m
        ∙ diagonal-times a H m

    by_second : (m : ℕ) → diagonal (λ i j. whole (suc j) *ℚ (exponential_term a i *ℚ exponential_term b (suc j))) m
        ≡ b *ℚ diagonal (λ i j. exponential_term a i *ℚ exponential_term b j) m
    by_second m =
        let H : ℕ → ℕ → ℚ = λ i j. exponential_term a i *ℚ exponential_term b j in
        diagonal-same (λ i j. whole (suc j) *ℚ H i (suc j)) (λ i j. b *ℚ H i j)
        (λ i j. ring₃ ℚ_ring (λ w x y. w ⊠ (x ⊠ y)) (λ w x y. x ⊠ (w ⊠ y)) refl (whole (suc j)) (exponential_term a i) (exponential_term b (suc j))
        ∙ ap (λ t. exponential_term a i *ℚ t) (exponential_term-next b j)
        ∙ ring₃ ℚ_ring (λ w x y. x ⊠ (w ⊠ y)) (λ w x y. w ⊠ (x ⊠ y)) refl b (exponential_term a i) (exponential_term b j)) m
        ∙ diagonal-times b H m

-- ---- sizes

pub exponential_term_nonneg : (z : ℚ) → whole 0 ≤ℚ z → (k : ℕ) → whole 0 ≤ℚ exponential_term z k
exponential_term_nonneg z h k = mul_nonneg (power z k) (pos 1 ÷ factorial k) (power_nonneg z h k) (over_nonneg 1 (factorial k))

pub exponential_term_mono : (z w : ℚ) → whole 0 ≤ℚ z → z ≤ℚ w → (k : ℕ) → exponential_term z k ≤ℚ exponential_term w k
exponential_term_mono z w h l k =
    mul_mono_both (power z k) (power w k) (pos 1 ÷ factorial k) (pos 1 ÷ factorial k)
    (over_nonneg 1 (factorial k)) (power_nonneg w (le_trans (whole 0) z w h l) k) (power_mono z w h l k) (le_refl (pos 1 ÷ factorial k))

abs-power : (z : ℚ) (k : ℕ) → abs (power z k) ≡ power (abs z) k
abs-power z zero = abs_of_nonneg (whole 1) (whole_nonneg 1)
abs-power z (suc k) = abs-mul z (power z k) ∙ ap (λ t. abs z *ℚ t) (abs-power z k)

pub abs-exponential_term : (z : ℚ) (k : ℕ) → abs (exponential_term z k) ≡ exponential_term (abs z) k
abs-exponential_term z k =
    abs-mul (power z k) (pos 1 ÷ factorial k) ∙ ap₂ ◌*ℚ◌ (abs-power z k) (abs_of_nonneg (pos 1 ÷ factorial k) (over_nonneg 1 (factorial k)))

-- ---- the terms fall

degree_difference : (m n : ℕ) → m ≤ n → degree (n - m) m ≡ n
degree_difference m n l = let e = degree-is (n - m) m in omega (arith, e)

-- terms that do not rise from m on
falling_by : (f : ℕ → ℚ) (m : ℕ) → ((k : ℕ) → m ≤ k → f (suc k) ≤ℚ f k) → (d : ℕ) → f (degree d m) ≤ℚ f m
falling_by f m h zero = le_refl (f m)
falling_by f m h (suc d) =
    let e = degree-is d m in
    le_trans (f (suc (degree d m))) (f (degree d m)) (f m) (h (degree d m) (omega (arith, e))) (falling_by f m h d)

pub falling_from : (f : ℕ → ℚ) (m n : ℕ) → ((k : ℕ) → m ≤ k → f (suc k) ≤ℚ f k) → m ≤ n → f n ≤ℚ f m
falling_from f m n h l = subst (λ k. f k ≤ℚ f m) (degree_difference m n l) (falling_by f m h (n - m))

-- where each term is at most half of the one before it, a sum from m on is at most the term m
halving_sum : (f : ℕ → ℚ) (m : ℕ) → ((k : ℕ) → whole 0 ≤ℚ f k) → ((k : ℕ) → m ≤ k → f (suc k) +ℚ f (suc k) ≤ℚ f k)
    → (d : ℕ) → sum_to f (degree d m) -ℚ sum_to f m +ℚ f (degree d m) ≤ℚ f m
halving_sum f m nonneg h zero =
    le₃ ℚ_ordered (λ s a b. s ⊟ s ⊞ a) (λ s a b. a) (λ s a b. []) refl (sum_to f m) (f m) (f m) tt
halving_sum f m nonneg h (suc d) =
    let e = degree-is d m in
    let k = degree d m in
    certified ℚ_ordered (sum_to f k ∷ sum_to f m ∷ f (suc k) ∷ f k ∷ f m ∷ []) (var 0 ⊞ var 2 ⊟ var 1 ⊞ var 2) (var 4)
    (le (var 2 ⊞ var 2) (var 3) ∷ le (var 0 ⊟ var 1 ⊞ var 3) (var 4) ∷ []) refl
    (h k (omega (arith, e)), (halving_sum f m nonneg h d, tt))

module _ (z : ℚ) (nonneg : whole 0 ≤ℚ z) (small : z ≤ℚ pos 16 ÷ 5) where
  exponential_term_halves : (k : ℕ) → 6 ≤ k → exponential_term z (suc k) +ℚ exponential_term z (suc k) ≤ℚ exponential_term z k
  exponential_term_halves k l =
      let T = exponential_term z k in
      let U = exponential_term z (suc k) in
      let p = exponential_term_nonneg z nonneg k in
      let q = exponential_term_nonneg z nonneg (suc k) in
      cancel_le 16 (lit< tt) (U +ℚ U) T
      (certified ℚ_ordered (U ∷ T ∷ z ∷ whole (suc k) ∷ (pos 16 ÷ 5) ∷ []) ((var 0 ⊞ var 0) ⊠ num 16) (var 1 ⊠ num 16)
      (times (num 5 ⊠ var 0) (num 7) (var 3) ∷ same (num 5) (var 3 ⊠ var 0) (var 2 ⊠ var 1) ∷ times (num 5 ⊠ var 1) (var 2) (var 4)
      ∷ same (var 1) (var 4 ⊠ num 5) (num 16) ∷ times (num 3) (num 0) (var 0) ∷ []) refl (
        mul_nonneg (whole 5) U (whole_nonneg 5) q,
        whole_le 7 (suc k) (omega arith),
        (
          exponential_term-next z k,
          (mul_nonneg (whole 5) T (whole_nonneg 5) p, small, (over-mul (pos 16) 5 (lit< tt), (whole_nonneg 3, q, tt))),
        ),
      ))

  pub exponential_term_falls : (k : ℕ) → 6 ≤ k → exponential_term z (suc k) ≤ℚ exponential_term z k
  exponential_term_falls k l =
      let U = exponential_term z (suc k) in
      le₃ ℚ_ordered (λ u t v. u) (λ u t v. t) (λ u t v. le (u ⊞ u) t ∷ le (num 0) u ∷ []) refl
      U (exponential_term z k) U (exponential_term_halves k l, (exponential_term_nonneg z nonneg (suc k), tt))

  -- the terms after m, up to n, come to at most the term m
  pub exponential_later : (m n : ℕ) → 6 ≤ m → m ≤ n → exponential_sum z n -ℚ exponential_sum z m ≤ℚ exponential_term z m
  exponential_later m n early l =
      let f = exponential_term z in
      let h = halving_sum f m (exponential_term_nonneg z nonneg) (λ k k_late. exponential_term_halves k (omega arith)) (n - m) in
      let s = exponential_sum z n -ℚ exponential_sum z m in
      le₃ ℚ_ordered (λ s t u. s) (λ s t u. u) (λ s t u. le (s ⊞ t) u ∷ le (num 0) t ∷ []) refl
      s (f n) (f m) (
        subst (λ k. sum_to f k -ℚ sum_to f m +ℚ f k ≤ℚ f m) (degree_difference m n l) h,
        (exponential_term_nonneg z nonneg n, tt),
      )
