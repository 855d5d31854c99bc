-- Sums over pairs of places, as they stand in a product of two sums: along a diagonal, over a triangle and over a square.
use Rattle.std.proofs.Common.{◌≡◌, refl, sym, ap, ap₂, ◌∙◌, ℕ, zero, suc, ◌≤◌, [], ◌∷◌, arith}
use Rattle.ring_solver.specs.Expression.{◌⊞◌, ◌⊟◌, ◌⊠◌, num}
use Rattle.ring_solver.specs.Ordered.{le}
use Rattle.ring_solver.proofs.Solver.{ring₁, ring₂, ring₃, ring₄}
use Rattle.ring_solver.proofs.Certificate.{le₃, moved, add_mono_both}
use Rattle.rat_core.specs.Fraction.{ℚ, whole, ◌+ℚ◌, ◌-ℚ◌, ◌*ℚ◌, ◌≤ℚ◌, abs}
use Rattle.rat_core.proofs.Laws.{ℚ_ring, ℚ_ordered, le_refl, le_trans}
use Rattle.rat_core.proofs.Order.{abs_add_le}
use Rattle.trig_meaning.specs.PartialSums.{sum_to}
use Rattle.trig_meaning.proofs.Sums.{sum_to-first, sum_to-same, sum_to-add, sum_to-times, sum_to_nonneg, sum_to_mono, tail_at_most}

-- i + j, by recursion on i
abbrev pub degree : ℕ → ℕ → ℕ
degree zero j = j
degree (suc i) j = suc (degree i j)

-- f 0 m + f 1 (m − 1) + .. + f m 0
abbrev pub diagonal : (ℕ → ℕ → ℚ) → ℕ → ℚ
diagonal f zero = f 0 0
diagonal f (suc m) = f 0 (suc m) +ℚ diagonal (λ i j. f (suc i) j) m

-- the sum over all i + j ≤ m
abbrev pub triangle : (ℕ → ℕ → ℚ) → ℕ → ℚ
triangle f m = sum_to (diagonal f) m

-- the sum over all i ≤ p and j ≤ q
abbrev pub square : (ℕ → ℕ → ℚ) → ℕ → ℕ → ℚ
square f p q = sum_to (λ i. sum_to (f i) q) p

pub le_degree : (i j : ℕ) → j ≤ degree i j
le_degree zero j = omega arith
le_degree (suc i) j = let l = le_degree i j in omega (arith, l)

-- ---- diagonals

pub diagonal-same : (f g : ℕ → ℕ → ℚ) → ((i j : ℕ) → f i j ≡ g i j) → (m : ℕ) → diagonal f m ≡ diagonal g m
diagonal-same f g h zero = h 0 0
diagonal-same f g h (suc m) = ap₂ ◌+ℚ◌ (h 0 (suc m)) (diagonal-same (λ i j. f (suc i) j) (λ i j. g (suc i) j) (λ i j. h (suc i) j) m)

pub diagonal-add : (f g : ℕ → ℕ → ℚ) (m : ℕ) → diagonal (λ i j. f i j +ℚ g i j) m ≡ diagonal f m +ℚ diagonal g m
diagonal-add f g zero = refl
diagonal-add f g (suc m) =
    let F : ℕ → ℕ → ℚ = λ i j. f (suc i) j in
    let G : ℕ → ℕ → ℚ = λ i j. g (suc i) j in
    ap (λ t. f 0 (suc m) +ℚ g 0 (suc m) +ℚ t) (diagonal-add F G m)
    ∙ ring₄ ℚ_ring (λ x y z w. x ⊞ y ⊞ (z ⊞ w)) (λ x y z w. x ⊞ z ⊞ (y ⊞ w)) refl (f 0 (suc m)) (g 0 (suc m)) (diagonal F m) (diagonal G m)

-- a factor that depends on i + j alone
pub diagonal-level : (s : ℕ → ℚ) (f : ℕ → ℕ → ℚ) (m : ℕ) → diagonal (λ i j. s (degree i j) *ℚ f i j) m ≡ s m *ℚ diagonal f m
diagonal-level s f zero = refl
diagonal-level s f (suc m) =
    ap (λ t. s (suc m) *ℚ f 0 (suc m) +ℚ t) (diagonal-level (λ k. s (suc k)) (λ i j. f (suc i) j) m)
    ∙ ring₃ ℚ_ring (λ s x y. s ⊠ x ⊞ s ⊠ y) (λ s x y. s ⊠ (x ⊞ y)) refl (s (suc m)) (f 0 (suc m)) (diagonal (λ i j. f (suc i) j) m)

pub diagonal-times : (c : ℚ) (f : ℕ → ℕ → ℚ) (m : ℕ) → diagonal (λ i j. c *ℚ f i j) m ≡ c *ℚ diagonal f m
diagonal-times c f m = diagonal-level (λ _. c) f m

-- the last product apart
pub diagonal-last : (f : ℕ → ℕ → ℚ) (m : ℕ) → diagonal f (suc m) ≡ diagonal (λ i j. f i (suc j)) m +ℚ f (suc m) 0
diagonal-last f zero = refl
diagonal-last f (suc m) =
    ap (λ t. f 0 (suc (suc m)) +ℚ t) (diagonal-last (λ i j. f (suc i) j) m)
    ∙ ring₃ ℚ_ring (λ x y z. x ⊞ (y ⊞ z)) (λ x y z. x ⊞ y ⊞ z) refl
    (f 0 (suc (suc m))) (diagonal (λ i j. f (suc i) (suc j)) m) (f (suc (suc m)) 0)

-- ---- squares

pub square-same : (f g : ℕ → ℕ → ℚ) → ((i j : ℕ) → f i j ≡ g i j) → (p q : ℕ) → square f p q ≡ square g p q
square-same f g h p q = sum_to-same (λ i. sum_to (f i) q) (λ i. sum_to (g i) q) (λ i. sum_to-same (f i) (g i) (h i) q) p

pub square-add : (f g : ℕ → ℕ → ℚ) (p q : ℕ) → square (λ i j. f i j +ℚ g i j) p q ≡ square f p q +ℚ square g p q
square-add f g p q =
    sum_to-same (λ i. sum_to (λ j. f i j +ℚ g i j) q) (λ i. sum_to (f i) q +ℚ sum_to (g i) q) (λ i. sum_to-add (f i) (g i) q) p
    ∙ sum_to-add (λ i. sum_to (f i) q) (λ i. sum_to (g i) q) p

-- the square of the products of two sums' terms is the product of the sums
pub square-product : (f g : ℕ → ℚ) (p q : ℕ) → square (λ i j. f i *ℚ g j) p q ≡ sum_to f p *ℚ sum_to g q
square-product f g p q =
    let G = sum_to g q in
    sum_to-same (λ i. sum_to (λ j. f i *ℚ g j) q) (λ i. G *ℚ f i)
    (λ i. sum_to-times (f i) g q ∙ ring₂ ℚ_ring (λ x y. x ⊠ y) (λ x y. y ⊠ x) refl (f i) G) p
    ∙ sum_to-times G f p ∙ ring₂ ℚ_ring (λ x y. x ⊠ y) (λ x y. y ⊠ x) refl G (sum_to f p)

-- ---- the triangle in the square

-- a triangle's first row apart
pub triangle-rows : (f : ℕ → ℕ → ℚ) (m : ℕ) → triangle f (suc m) ≡ sum_to (f 0) (suc m) +ℚ triangle (λ i j. f (suc i) j) m
triangle-rows f zero = ring₃ ℚ_ring (λ x y z. x ⊞ (y ⊞ z)) (λ x y z. x ⊞ y ⊞ z) refl (f 0 0) (f 0 1) (f 1 0)
triangle-rows f (suc m) =
    ap (λ t. t +ℚ diagonal f (suc (suc m))) (triangle-rows f m)
    ∙ ring₄ ℚ_ring (λ r t x d. r ⊞ t ⊞ (x ⊞ d)) (λ r t x d. r ⊞ x ⊞ (t ⊞ d)) refl
    (sum_to (f 0) (suc m)) (triangle (λ i j. f (suc i) j) m) (f 0 (suc (suc m))) (diagonal (λ i j. f (suc i) j) (suc m))

-- where each product is in size at most that of another square, so is what the square has beyond its triangle
pub corner_at_most : (f g : ℕ → ℕ → ℚ) → ((i j : ℕ) → abs (f i j) ≤ℚ g i j) → (m q : ℕ) → m ≤ q
    → abs (square f m q -ℚ triangle f m) ≤ℚ square g m q -ℚ triangle g m
corner_at_most f g h zero q l = tail_at_most (f 0) (g 0) (h 0) 0 q l
corner_at_most f g h (suc m) q l =
    let F : ℕ → ℕ → ℚ = λ i j. f (suc i) j in
    let G : ℕ → ℕ → ℚ = λ i j. g (suc i) j in
    let a = sum_to (f 0) q -ℚ sum_to (f 0) (suc m) in
    let b = square F m q -ℚ triangle F m in
    moved ℚ_ordered (ap abs (by_rows f)) (by_rows g)
    (le_trans (abs (a +ℚ b)) (abs a +ℚ abs b) (sum_to (g 0) q -ℚ sum_to (g 0) (suc m) +ℚ (square G m q -ℚ triangle G m)) (abs_add_le a b)
    (add_mono_both ℚ_ordered (abs a) (sum_to (g 0) q -ℚ sum_to (g 0) (suc m)) (abs b) (square G m q -ℚ triangle G m)
    (tail_at_most (f 0) (g 0) (h 0) (suc m) q l) (corner_at_most F G (λ i j. h (suc i) j) m q (omega arith))))
  where
    by_rows : (f : ℕ → ℕ → ℚ)
        → sum_to (f 0) q -ℚ sum_to (f 0) (suc m) +ℚ (square (λ i j. f (suc i) j) m q -ℚ triangle (λ i j. f (suc i) j) m)
        ≡ square f (suc m) q -ℚ triangle f (suc m)
    by_rows f =
        let F : ℕ → ℕ → ℚ = λ i j. f (suc i) j in
        ring₄ ℚ_ring (λ x y z w. x ⊟ z ⊞ (y ⊟ w)) (λ x y z w. x ⊞ y ⊟ (z ⊞ w)) refl
        (sum_to (f 0) q) (square F m q) (sum_to (f 0) (suc m)) (triangle F m)
        ∙ ap₂ ◌-ℚ◌ (sym (sum_to-first (λ i. sum_to (f i) q) m)) (sym (triangle-rows f m))

diagonal_nonneg : (f : ℕ → ℕ → ℚ) → ((i j : ℕ) → whole 0 ≤ℚ f i j) → (m : ℕ) → whole 0 ≤ℚ diagonal f m
diagonal_nonneg f h zero = h 0 0
diagonal_nonneg f h (suc m) =
    moved ℚ_ordered (ring₁ ℚ_ring (λ x. num 0 ⊞ num 0) (λ x. num 0) refl (whole 0)) refl
    (add_mono_both ℚ_ordered (whole 0) (f 0 (suc m)) (whole 0) (diagonal (λ i j. f (suc i) j) m) (h 0 (suc m))
    (diagonal_nonneg (λ i j. f (suc i) j) (λ i j. h (suc i) j) m))

-- a square lies in the triangle of its far corner
pub square_in_triangle : (f : ℕ → ℕ → ℚ) → ((i j : ℕ) → whole 0 ≤ℚ f i j) → (p q : ℕ) → square f p q ≤ℚ triangle f (degree p q)
square_in_triangle f h zero zero = le_refl (f 0 0)
square_in_triangle f h zero (suc q) =
    let F : ℕ → ℕ → ℚ = λ i j. f (suc i) j in
    moved ℚ_ordered refl (sym (triangle-rows f q))
    (le₃ ℚ_ordered (λ x y z. x) (λ x y z. x ⊞ y) (λ x y z. le (num 0) y ∷ []) refl
    (sum_to (f 0) (suc q)) (triangle F q) (whole 0) (sum_to_nonneg (diagonal F) (diagonal_nonneg F (λ i j. h (suc i) j)) q, tt))
square_in_triangle f h (suc p) q =
    let F : ℕ → ℕ → ℚ = λ i j. f (suc i) j in
    let l = le_degree p q in
    moved ℚ_ordered (sym (sum_to-first (λ i. sum_to (f i) q) p)) (sym (triangle-rows f (degree p q)))
    (add_mono_both ℚ_ordered (sum_to (f 0) q) (sum_to (f 0) (suc (degree p q))) (square F p q) (triangle F (degree p q))
    (sum_to_mono (f 0) (h 0) q (suc (degree p q)) (omega (arith, l))) (square_in_triangle F (λ i j. h (suc i) j) p q))
