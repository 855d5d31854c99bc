-- Sums f 0 + f 1 + .. + f n of fractions.
use Rattle.std.proofs.Common.{◌≡◌, refl, sym, ap, ap₂, ◌∙◌, ℕ, zero, suc, ◌≤◌, le_of_suc-le-suc, not-suc-le-zero, [], ◌∷◌, arith}
use Rattle.ring_solver.specs.Expression.{num, ◌⊞◌, ◌⊟◌, ◌⊠◌, opp}
use Rattle.ring_solver.specs.Ordered.{le}
use Rattle.ring_solver.proofs.Solver.{ring₁, ring₂, ring₃, ring₄}
use Rattle.ring_solver.proofs.Certificate.{le₃, moved, add_mono_both, at_most_of_same}
use Rattle.rat_core.specs.Fraction.{ℚ, whole, ◌+ℚ◌, ◌-ℚ◌, ◌*ℚ◌, neg_ℚ, ◌≤ℚ◌, abs}
use Rattle.rat_core.proofs.Laws.{ℚ_ring, ℚ_ordered, le_refl, le_trans}
use Rattle.rat_core.proofs.Order.{abs_of_nonneg, abs_add_le}
use Rattle.trig_meaning.specs.PartialSums.{sum_to}

-- a sum's first term apart
pub sum_to-first : (f : ℕ → ℚ) (n : ℕ) → sum_to f (suc n) ≡ f 0 +ℚ sum_to (λ j. f (suc j)) n
sum_to-first f zero = refl
sum_to-first f (suc n) =
    ap (λ t. t +ℚ f (suc (suc n))) (sum_to-first f n) ∙ ring₃ ℚ_ring (λ x y z. (x ⊞ y) ⊞ z) (λ x y z. x ⊞ (y ⊞ z)) refl (f 0) (sum_to
    (λ j. f (suc j)) n) (f (suc (suc n)))

-- sums of equal terms
pub sum_to-same : (f g : ℕ → ℚ) → ((j : ℕ) → f j ≡ g j) → (n : ℕ) → sum_to f n ≡ sum_to g n
sum_to-same f g h zero = h 0
sum_to-same f g h (suc n) = ap₂ ◌+ℚ◌ (sum_to-same f g h n) (h (suc n))

pub sum_to-neg : (f : ℕ → ℚ) (n : ℕ) → sum_to (λ j. neg_ℚ (f j)) n ≡ neg_ℚ (sum_to f n)
sum_to-neg f zero = refl
sum_to-neg f (suc n) = ap (λ t. t +ℚ neg_ℚ (f (suc n))) (sum_to-neg f n)
    ∙ ring₂ ℚ_ring (λ x y. opp x ⊞ opp y) (λ x y. opp (x ⊞ y)) refl (sum_to f n) (f (suc n))

-- termwise
pub sum_to-difference : (f g : ℕ → ℚ) (n : ℕ) → sum_to f n -ℚ sum_to g n ≡ sum_to (λ j. f j -ℚ g j) n
sum_to-difference f g zero = refl
sum_to-difference f g (suc n) =
    ring₄ ℚ_ring (λ x y z w. x ⊞ y ⊟ (z ⊞ w)) (λ x y z w. x ⊟ z ⊞ (y ⊟ w)) refl (sum_to f n) (f (suc n)) (sum_to g n) (g (suc n))
    ∙ ap (λ t. t +ℚ (f (suc n) -ℚ g (suc n))) (sum_to-difference f g n)

pub sum_to-add : (f g : ℕ → ℚ) (n : ℕ) → sum_to (λ j. f j +ℚ g j) n ≡ sum_to f n +ℚ sum_to g n
sum_to-add f g zero = refl
sum_to-add f g (suc n) =
    ap (λ t. t +ℚ (f (suc n) +ℚ g (suc n))) (sum_to-add f g n)
    ∙ ring₄ ℚ_ring (λ x y z w. x ⊞ y ⊞ (z ⊞ w)) (λ x y z w. x ⊞ z ⊞ (y ⊞ w)) refl (sum_to f n) (sum_to g n) (f (suc n)) (g (suc n))

pub sum_to-times : (c : ℚ) (f : ℕ → ℚ) (n : ℕ) → sum_to (λ j. c *ℚ f j) n ≡ c *ℚ sum_to f n
sum_to-times c f zero = refl
sum_to-times c f (suc n) =
    ap (λ t. t +ℚ c *ℚ f (suc n)) (sum_to-times c f n) ∙ ring₃ ℚ_ring (λ c x y. c ⊠ x ⊞ c ⊠ y) (λ c x y. c ⊠ (x ⊞ y)) refl c (sum_to f n) (f (suc n))

-- ---- orders

pub sum_to_nonneg : (f : ℕ → ℚ) → ((j : ℕ) → whole 0 ≤ℚ f j) → (n : ℕ) → whole 0 ≤ℚ sum_to f n
sum_to_nonneg f h zero = h 0
sum_to_nonneg f h (suc n) =
    moved ℚ_ordered (ring₁ ℚ_ring (λ x. num 0 ⊞ num 0) (λ x. num 0) refl (whole 0)) refl
    (add_mono_both ℚ_ordered (whole 0) (sum_to f n) (whole 0) (f (suc n)) (sum_to_nonneg f h n) (h (suc n)))

-- a longer sum of terms of at least 0 is greater
pub sum_to_mono : (f : ℕ → ℚ) → ((j : ℕ) → whole 0 ≤ℚ f j) → (m n : ℕ) → m ≤ n → sum_to f m ≤ℚ sum_to f n
sum_to_mono f h zero zero l = le_refl (f 0)
sum_to_mono f h zero (suc n) l =
    le₃ ℚ_ordered (λ a x y. a) (λ a x y. x ⊞ y) (λ a x y. le a x ∷ le (num 0) y ∷ []) refl
    (f 0) (sum_to f n) (f (suc n)) (sum_to_mono f h zero n (omega arith), (h (suc n), tt))
sum_to_mono f h (suc m) zero l = absurd (not-suc-le-zero l)
sum_to_mono f h (suc m) (suc n) l =
    let g : ℕ → ℚ = λ j. f (suc j) in
    moved ℚ_ordered (sym (sum_to-first f m)) (sym (sum_to-first f n))
    (le₃ ℚ_ordered (λ a x y. a ⊞ x) (λ a x y. a ⊞ y) (λ a x y. le x y ∷ []) refl
    (f 0) (sum_to g m) (sum_to g n) (sum_to_mono g (λ j. h (suc j)) m n (le_of_suc-le-suc l), tt))

pub sum_to_at_most : (f g : ℕ → ℚ) → ((j : ℕ) → f j ≤ℚ g j) → (n : ℕ) → sum_to f n ≤ℚ sum_to g n
sum_to_at_most f g h zero = h 0
sum_to_at_most f g h (suc n) = add_mono_both ℚ_ordered (sum_to f n) (sum_to g n) (f (suc n)) (g (suc n)) (sum_to_at_most f g h n) (h (suc n))

-- a sum is in size at most one whose terms are at least the sizes of its own
pub sum_to_size : (f g : ℕ → ℚ) → ((j : ℕ) → abs (f j) ≤ℚ g j) → (n : ℕ) → abs (sum_to f n) ≤ℚ sum_to g n
sum_to_size f g h zero = h 0
sum_to_size f g h (suc n) =
    le_trans (abs (sum_to f (suc n))) (abs (sum_to f n) +ℚ abs (f (suc n))) (sum_to g (suc n)) (abs_add_le (sum_to f n) (f (suc n)))
    (add_mono_both ℚ_ordered (abs (sum_to f n)) (sum_to g n) (abs (f (suc n))) (g (suc n)) (sum_to_size f g h n) (h (suc n)))

-- where each term is in size at most that of another sum, so is what a longer sum has beyond a shorter one
pub tail_at_most : (f g : ℕ → ℚ) → ((j : ℕ) → abs (f j) ≤ℚ g j) → (m n : ℕ) → m ≤ n
    → abs (sum_to f n -ℚ sum_to f m) ≤ℚ sum_to g n -ℚ sum_to g m
tail_at_most f g h zero zero l =
    at_most_of_same ℚ_ordered
    (ap abs (difference_zero (f 0)) ∙ abs_of_nonneg (whole 0) (le_refl (whole 0)) ∙ sym (difference_zero (g 0)))
  where
    difference_zero : (x : ℚ) → x -ℚ x ≡ whole 0
    difference_zero = ring₁ ℚ_ring (λ x. x ⊟ x) (λ x. num 0) refl
tail_at_most f g h zero (suc n) l =
    let d = sum_to f n -ℚ f 0 in
    le_trans _ (abs d +ℚ abs (f (suc n))) _
    (moved ℚ_ordered
    (ap abs (ring₃ ℚ_ring (λ a x y. x ⊟ a ⊞ y) (λ a x y. x ⊞ y ⊟ a) refl (f 0) (sum_to f n) (f (suc n)))) refl
    (abs_add_le d (f (suc n))))
    (moved ℚ_ordered refl (ring₃ ℚ_ring (λ a x y. x ⊟ a ⊞ y) (λ a x y. x ⊞ y ⊟ a) refl (g 0) (sum_to g n) (g (suc n)))
    (add_mono_both ℚ_ordered (abs d) (sum_to g n -ℚ g 0) (abs (f (suc n))) (g (suc n))
    (tail_at_most f g h zero n (omega arith)) (h (suc n))))
tail_at_most f g h (suc m) zero l = absurd (not-suc-le-zero l)
tail_at_most f g h (suc m) (suc n) l =
    moved ℚ_ordered (ap abs (shifted f)) (shifted g) (tail_at_most (λ j. f (suc j)) (λ j. g (suc j)) (λ j. h (suc j)) m n (le_of_suc-le-suc l))
  where
    shifted : (f : ℕ → ℚ) → sum_to (λ j. f (suc j)) n -ℚ sum_to (λ j. f (suc j)) m ≡ sum_to f (suc n) -ℚ sum_to f (suc m)
    shifted f =
        ring₃ ℚ_ring (λ a x y. y ⊟ x) (λ a x y. a ⊞ y ⊟ (a ⊞ x)) refl (f 0) (sum_to (λ j. f (suc j)) m) (sum_to (λ j. f (suc j)) n)
        ∙ ap₂ ◌-ℚ◌ (sym (sum_to-first f n)) (sym (sum_to-first f m))
