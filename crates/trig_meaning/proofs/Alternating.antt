-- Series whose terms alternate in sign. A falling one lies between its partial sums (Leibniz).
use Rattle.std.proofs.Common.{◌≡◌, refl, sym, ap, ap₂, ◌∙◌, subst, ℕ, zero, suc, ◌≤◌, [], ◌∷◌, le_of_suc-le-suc, not-suc-le-zero}
use Rattle.ring_solver.specs.Expression.{num, ◌⊟◌, ◌⊠◌, opp}
use Rattle.ring_solver.specs.Ordered.{le, times}
use Rattle.ring_solver.proofs.Solver.{ring₁, ring₂, ring₃}
use Rattle.ring_solver.proofs.Certificate.{le₁, le₂, le₃, le₄}
use Rattle.rat_core.specs.Fraction.{ℚ, whole, ◌+ℚ◌, ◌-ℚ◌, ◌*ℚ◌, neg_ℚ, ◌≤ℚ◌, abs}
use Rattle.rat_core.proofs.Laws.{ℚ_ring, ℚ_ordered, le_refl}
use Rattle.rat_core.proofs.Order.{abs_le, abs-neg, whole_nonneg}
use Rattle.trig_meaning.specs.PartialSums.{sum_to, sign}
use Rattle.trig_meaning.proofs.Sums.{sum_to-first, sum_to-same, sum_to-neg}

-- f 0 − (f 1 − (f 2 − .. f n))
abbrev pub alternating : (ℕ → ℚ) → ℕ → ℚ
alternating f zero = f 0
alternating f (suc n) = f 0 -ℚ alternating (λ j. f (suc j)) n

-- the terms are at least 0, and fall
pub record IsFalling (f : ℕ → ℚ) : Type 0 where
  pub nonneg : (j : ℕ) → whole 0 ≤ℚ f j
  pub falls : (j : ℕ) → f (suc j) ≤ℚ f j

pub falling_tail : (f : ℕ → ℚ) → IsFalling f → IsFalling (λ j. f (suc j))
falling_tail f h = record { nonneg = λ j. h.nonneg (suc j); falls = λ j. h.falls (suc j) }

-- a cut series with signs is its alternating sum
pub sum_alternating : (f : ℕ → ℚ) (n : ℕ) → sum_to (λ j. sign j *ℚ f j) n ≡ alternating f n
sum_alternating f zero = ring₁ ℚ_ring (λ x. num 1 ⊠ x) (λ x. x) refl (f 0)
sum_alternating f (suc n) =
    sum_to-first (λ j. sign j *ℚ f j) n
    ∙ ap₂ ◌+ℚ◌ (ring₁ ℚ_ring (λ x. num 1 ⊠ x) (λ x. x) refl (f 0))
    (sum_to-same (λ j. sign (suc j) *ℚ f (suc j)) (λ j. neg_ℚ (sign j *ℚ f (suc j)))
    (λ j. ring₂ ℚ_ring (λ s x. opp s ⊠ x) (λ s x. opp (s ⊠ x)) refl (sign j) (f (suc j))) n
    ∙ sum_to-neg (λ j. sign j *ℚ f (suc j)) n ∙ ap neg_ℚ (sum_alternating (λ j. f (suc j)) n))

-- a falling series lies between 0 and its first term
pub between : (f : ℕ → ℚ) → IsFalling f → (n : ℕ) → (whole 0 ≤ℚ alternating f n) × (alternating f n ≤ℚ f 0)
between f h zero = (h.nonneg 0, le_refl (f 0))
between f h (suc n) =
    let b = between (λ j. f (suc j)) (falling_tail f h) n in (
      le₃ ℚ_ordered (λ a x r. num 0) (λ a x r. a ⊟ r) (λ a x r. le r x ∷ le x a ∷ []) refl (f 0) (f 1) (alternating (λ j. f (suc j)) n) (b.1, (h.falls 0, tt)),
      le₂ ℚ_ordered (λ a r. a ⊟ r) (λ a r. a) (λ a r. le (num 0) r ∷ []) refl (f 0) (alternating (λ j. f (suc j)) n) (b.0, tt),
    )

-- twice m, by recursion
abbrev pub twice : ℕ → ℕ
twice zero = zero
twice (suc m) = suc (suc (twice m))

-- a sum that ends with a term added is above each longer one ..
pub at_most_even : (m n : ℕ) (f : ℕ → ℚ) → IsFalling f → twice m ≤ n → alternating f n ≤ℚ alternating f (twice m)
at_most_even zero n f h l = (between f h n).1
at_most_even (suc m) zero f h l = absurd (not-suc-le-zero l)
at_most_even (suc m) (suc zero) f h l = absurd (not-suc-le-zero (le_of_suc-le-suc l))
at_most_even (suc m) (suc (suc n)) f h l = two_more f n (twice m)
    (at_most_even m n (λ j. f (suc (suc j))) (falling_tail (λ j. f (suc j)) (falling_tail f h)) (le_of_suc-le-suc (le_of_suc-le-suc l)))
  where
    two_more : (f : ℕ → ℚ) (n k : ℕ) → alternating (λ j. f (suc (suc j))) n ≤ℚ alternating (λ j. f (suc (suc j))) k
        → alternating f (suc (suc n)) ≤ℚ alternating f (suc (suc k))
    two_more f n k e =
        le₄ ℚ_ordered (λ a x r s. a ⊟ (x ⊟ r)) (λ a x r s. a ⊟ (x ⊟ s)) (λ a x r s. le r s ∷ []) refl
        (f 0) (f 1) (alternating (λ j. f (suc (suc j))) n) (alternating (λ j. f (suc (suc j))) k) (e, tt)

-- .. and one that ends with a term taken away is below each longer one
pub at_least_odd : (m n : ℕ) (f : ℕ → ℚ) → IsFalling f → suc (twice m) ≤ n → alternating f (suc (twice m)) ≤ℚ alternating f n
at_least_odd m zero f h l = absurd (not-suc-le-zero l)
at_least_odd m (suc n) f h l =
    le₃ ℚ_ordered (λ a r s. a ⊟ r) (λ a r s. a ⊟ s) (λ a r s. le s r ∷ []) refl
    (f 0) (alternating (λ j. f (suc j)) (twice m)) (alternating (λ j. f (suc j)) n)
    (at_most_even m n (λ j. f (suc j)) (falling_tail f h) (le_of_suc-le-suc l), tt)

-- where only the second term may exceed the first, up to its double, the size of the sum is at most the first term
pub within_first : (f : ℕ → ℚ) → whole 0 ≤ℚ f 0 → f 1 ≤ℚ whole 2 *ℚ f 0 → IsFalling (λ j. f (suc j)) → (n : ℕ) → abs (alternating f n) ≤ℚ f 0
within_first f p q h zero = abs_le (f 0) (f 0) (le_refl (f 0))
    (le₁ ℚ_ordered (λ x. opp x) (λ x. x) (λ x. times (num 2) (num 0) x ∷ []) refl (f 0) (whole_nonneg 2, p, tt))
within_first f p q h (suc n) =
    let b = between (λ j. f (suc j)) h n in
    abs_le (alternating f (suc n)) (f 0)
    (le₂ ℚ_ordered (λ a r. a ⊟ r) (λ a r. a) (λ a r. le (num 0) r ∷ []) refl (f 0) (alternating (λ j. f (suc j)) n) (b.0, tt))
    (le₃ ℚ_ordered (λ a r x. opp (a ⊟ r)) (λ a r x. a) (λ a r x. le r x ∷ le x (num 2 ⊠ a) ∷ []) refl (f 0) (alternating (λ j. f (suc j)) n) (f 1)
    (b.1, (q, tt)))

-- the tail of a falling series is within the first term left out
pub tail_within : (m n : ℕ) (f : ℕ → ℚ) → IsFalling f → m ≤ n → abs (alternating f n -ℚ alternating f m) ≤ℚ f (suc m)
tail_within zero zero f h l =
    abs_le (f 0 -ℚ f 0) (f 1)
    (le₂ ℚ_ordered (λ a x. a ⊟ a) (λ a x. x) (λ a x. le (num 0) x ∷ []) refl (f 0) (f 1) (h.nonneg 1, tt))
    (le₂ ℚ_ordered (λ a x. opp (a ⊟ a)) (λ a x. x) (λ a x. le (num 0) x ∷ []) refl (f 0) (f 1) (h.nonneg 1, tt))
tail_within zero (suc n) f h l =
    let b = between (λ j. f (suc j)) (falling_tail f h) n in
    abs_le (alternating f (suc n) -ℚ f 0) (f 1)
    (le₃ ℚ_ordered (λ a r x. (a ⊟ r) ⊟ a) (λ a r x. x) (λ a r x. le (num 0) r ∷ le r x ∷ le (num 0) r ∷ []) refl (f 0)
    (alternating (λ j. f (suc j)) n) (f 1) (b.0, (b.1, (b.0, tt))))
    (le₃ ℚ_ordered (λ a r x. opp ((a ⊟ r) ⊟ a)) (λ a r x. x) (λ a r x. le r x ∷ []) refl (f 0) (alternating (λ j. f (suc j)) n) (f 1) (b.1, tt))
tail_within (suc m) zero f h l = absurd (not-suc-le-zero l)
tail_within (suc m) (suc n) f h l =
    let A = alternating (λ j. f (suc j)) n in
    let B = alternating (λ j. f (suc j)) m in
    subst (λ t. t ≤ℚ f (suc (suc m)))
    (sym (abs-neg (A -ℚ B)) ∙ ap abs (ring₃ ℚ_ring (λ a r s. opp (r ⊟ s)) (λ a r s. (a ⊟ r) ⊟ (a ⊟ s)) refl (f 0) A B))
    (tail_within m n (λ j. f (suc j)) (falling_tail f h) (le_of_suc-le-suc l))
