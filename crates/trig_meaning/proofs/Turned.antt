-- Sums of the terms z^k / k! with coefficients that go round x, y, −x, −y. With 0, 1 it is the sine sum, and with 1, 0 the
-- cosine sum. Two such sums multiply as the sine of a sum does, up to the rest of one exponential series.
use Rattle.std.proofs.Common.{◌≡◌, refl, sym, ap, ap₂, ◌∙◌, ℕ, zero, suc, ◌+◌, ◌*◌, ◌≤◌, [], ◌∷◌, arith}
use Rattle.ring_solver.specs.Expression.{var, num, ◌⊞◌, ◌⊟◌, ◌⊠◌, opp}
use Rattle.ring_solver.specs.Ordered.{le, times}
use Rattle.ring_solver.proofs.Solver.{ring, ring₁, ring₂, ring₃, ring₄}
use Rattle.ring_solver.proofs.Certificate.{le₂, le₃, moved, at_most_of_same}
use Rattle.rat_core.specs.Fraction.{ℚ, whole, ◌+ℚ◌, ◌-ℚ◌, ◌*ℚ◌, neg_ℚ, ◌≤ℚ◌, abs}
use Rattle.rat_core.proofs.Laws.{ℚ_ring, ℚ_ordered, le_refl, le_trans, mul_nonneg}
use Rattle.rat_core.proofs.Order.{whole_nonneg, difference_nonneg, abs_of_nonneg, abs-neg, abs-mul}
use Rattle.rat_core.proofs.Sizes.{abs_nonneg}
use Rattle.trig_meaning.specs.PartialSums.{sum_to, sign, sine_sum, cosine_sum}
use Rattle.trig_meaning.proofs.Sums.{sum_to-same, sum_to-difference, sum_to_size, tail_at_most}
use Rattle.trig_meaning.proofs.Alternating.{twice}
use Rattle.trig_meaning.proofs.Odd.{even_is, odd_is}
use Rattle.trig_meaning.proofs.Products.{degree, diagonal, triangle, square, diagonal-level, square-same, square-add, square-product, corner_at_most}
use Rattle.trig_meaning.proofs.Products.{square_in_triangle}
use Rattle.trig_meaning.proofs.Exponential.{exponential_term, exponential_sum, binomial, exponential_term_nonneg, exponential_term_mono, abs-exponential_term}

-- ---- the coefficients

-- x, y, −x, −y, x, ..
abbrev pub turned : ℚ → ℚ → ℕ → ℚ
turned x y zero = x
turned x y (suc k) = turned y (neg_ℚ x) k

-- 1, 0, −1, 0, .. and 0, 1, 0, −1, ..
abbrev pub cosine_coefficient : ℕ → ℚ
cosine_coefficient = turned (whole 1) (whole 0)

abbrev pub sine_coefficient : ℕ → ℚ
sine_coefficient = turned (whole 0) (whole 1)

turned-parts : (x y : ℚ) (k : ℕ) → turned x y k ≡ x *ℚ cosine_coefficient k +ℚ y *ℚ sine_coefficient k
turned-parts x y zero = ring₂ ℚ_ring (λ x y. x) (λ x y. x ⊠ num 1 ⊞ y ⊠ num 0) refl x y
turned-parts x y (suc k) =
    turned-parts y (neg_ℚ x) k
    ∙ ring₄ ℚ_ring (λ x y c s. y ⊠ c ⊞ opp x ⊠ s) (λ x y c s. x ⊠ (num 0 ⊠ c ⊞ opp (num 1) ⊠ s) ⊞ y ⊠ (num 1 ⊠ c ⊞ opp (num 0) ⊠ s)) refl
    x y (cosine_coefficient k) (sine_coefficient k)
    ∙ ap₂ (λ s t. x *ℚ s +ℚ y *ℚ t) (sym (turned-parts (whole 0) (neg_ℚ (whole 1)) k)) (sym (turned-parts (whole 1) (neg_ℚ (whole 0)) k))

turned-degree : (x y : ℚ) (i j : ℕ) → turned x y (degree i j) ≡ turned x y i *ℚ cosine_coefficient j +ℚ turned y (neg_ℚ x) i *ℚ sine_coefficient j
turned-degree x y zero j = turned-parts x y j
turned-degree x y (suc i) j = turned-degree y (neg_ℚ x) i j

turned-twice : (x y : ℚ) (j : ℕ) → turned x y (twice j) ≡ sign j *ℚ x
turned-twice x y zero = ring₁ ℚ_ring (λ x. x) (λ x. num 1 ⊠ x) refl x
turned-twice x y (suc j) = turned-twice (neg_ℚ x) (neg_ℚ y) j ∙ ring₂ ℚ_ring (λ s x. s ⊠ opp x) (λ s x. opp s ⊠ x) refl (sign j) x

turned_small : (x y : ℚ) → abs x ≤ℚ whole 1 → abs y ≤ℚ whole 1 → (k : ℕ) → abs (turned x y k) ≤ℚ whole 1
turned_small x y h l zero = h
turned_small x y h l (suc k) = turned_small y (neg_ℚ x) l (moved ℚ_ordered (sym (abs-neg x)) refl h) k

pub one_small : abs (whole 1) ≤ℚ whole 1
one_small = at_most_of_same ℚ_ordered (abs_of_nonneg (whole 1) (whole_nonneg 1))

pub zero_small : abs (whole 0) ≤ℚ whole 1
zero_small = moved ℚ_ordered (sym (abs_of_nonneg (whole 0) (le_refl (whole 0)))) refl (whole_nonneg 1)

-- ---- the sums

unfoldable pub turned_sum : ℚ → ℚ → ℚ → ℕ → ℚ
turned_sum x y z m = sum_to (λ k. turned x y k *ℚ exponential_term z k) m

-- a sum of an even number of terms, in pairs
in_pairs : (f : ℕ → ℚ) (n : ℕ) → sum_to f (suc (twice n)) ≡ sum_to (λ j. f (twice j) +ℚ f (suc (twice j))) n
in_pairs f zero = refl
in_pairs f (suc n) =
    ap (λ t. t +ℚ f (suc (suc (twice n))) +ℚ f (suc (suc (suc (twice n))))) (in_pairs f n)
    ∙ ring₃ ℚ_ring (λ x y z. x ⊞ y ⊞ z) (λ x y z. x ⊞ (y ⊞ z)) refl
    (sum_to (λ j. f (twice j) +ℚ f (suc (twice j))) n) (f (suc (suc (twice n)))) (f (suc (suc (suc (twice n)))))

-- the coefficients x, y in pairs
pairs : (x y z : ℚ) (n : ℕ) → sum_to (λ j. sign j *ℚ (x *ℚ exponential_term z (twice j)
    +ℚ y *ℚ exponential_term z (suc (twice j)))) n ≡ turned_sum x y z (suc (twice n))
unfolding turned_sum
pairs x y z n =
    sum_to-same (λ j. sign j *ℚ (x *ℚ exponential_term z (twice j) +ℚ y *ℚ exponential_term z (suc (twice j))))
    (λ j. turned x y (twice j) *ℚ exponential_term z (twice j) +ℚ turned x y (suc (twice j)) *ℚ exponential_term z (suc (twice j)))
    (λ j. ring ℚ_ring (sign j ∷ x ∷ y ∷ exponential_term z (twice j) ∷ exponential_term z (suc (twice j)) ∷ [])
    (var 0 ⊠ (var 1 ⊠ var 3 ⊞ var 2 ⊠ var 4)) (var 0 ⊠ var 1 ⊠ var 3 ⊞ var 0 ⊠ var 2 ⊠ var 4) refl
    ∙ ap₂ (λ s t. s *ℚ exponential_term z (twice j) +ℚ t *ℚ exponential_term z (suc (twice j))) (sym (turned-twice x y j)) (sym (turned-twice y (neg_ℚ x) j))) n
    ∙ sym (in_pairs (λ k. turned x y k *ℚ exponential_term z k) n)

pub sine_sum-turned_sum : (n : ℕ) (z : ℚ) → sine_sum n z ≡ turned_sum (whole 0) (whole 1) z (suc (twice n))
unfolding sine_sum
sine_sum-turned_sum n z =
    sum_to-same (λ j. sign j *ℚ exponential_term z (2 * j + 1))
    (λ j. sign j *ℚ (whole 0 *ℚ exponential_term z (twice j) +ℚ whole 1 *ℚ exponential_term z (suc (twice j))))
    (λ j. ap (λ k. sign j *ℚ exponential_term z k) (odd_is j)
    ∙ ring₃ ℚ_ring (λ s e o. s ⊠ o) (λ s e o. s ⊠ (num 0 ⊠ e ⊞ num 1 ⊠ o)) refl (sign j) (exponential_term z (twice j)) (exponential_term z (suc (twice j)))) n
    ∙ pairs (whole 0) (whole 1) z n

-- the second coefficient comes as 0 and as −0
pub cosine_sum-turned_sum : (n : ℕ) (z y : ℚ) → y ≡ whole 0 → cosine_sum n z ≡ turned_sum (whole 1) y z (suc (twice n))
unfolding cosine_sum
cosine_sum-turned_sum n z y h =
    sum_to-same (λ j. sign j *ℚ exponential_term z (2 * j))
    (λ j. sign j *ℚ (whole 1 *ℚ exponential_term z (twice j) +ℚ y *ℚ exponential_term z (suc (twice j))))
    (λ j. ap (λ k. sign j *ℚ exponential_term z k) (even_is j)
    ∙ ring₃ ℚ_ring (λ s e o. s ⊠ e) (λ s e o. s ⊠ (num 1 ⊠ e ⊞ num 0 ⊠ o)) refl (sign j) (exponential_term z (twice j)) (exponential_term z (suc (twice j)))
    ∙ ap (λ t. sign j *ℚ (whole 1 *ℚ exponential_term z (twice j) +ℚ t *ℚ exponential_term z (suc (twice j)))) (sym h)) n
    ∙ pairs (whole 1) y z n

-- a coefficient of size at most 1
shrunk : (s t b : ℚ) → abs s ≤ℚ whole 1 → abs t ≡ b → whole 0 ≤ℚ b → abs (s *ℚ t) ≤ℚ b
shrunk s t b h e nonneg =
    moved ℚ_ordered (sym (abs-mul s t ∙ ap (λ c. abs s *ℚ c) e)) refl
    (le₂ ℚ_ordered (λ s b. s ⊠ b) (λ s b. b) (λ s b. times b s (num 1) ∷ []) refl (abs s) b (nonneg, h, tt))

module _ (x y : ℚ) (x_small : abs x ≤ℚ whole 1) (y_small : abs y ≤ℚ whole 1) where
  -- the terms of the product of two sums, with their coefficient, and their sizes
  abbrev place : ℚ → ℚ → ℕ → ℕ → ℚ
  place a b i j = turned x y (degree i j) *ℚ (exponential_term a i *ℚ exponential_term b j)

  abbrev size : ℚ → ℚ → ℕ → ℕ → ℚ
  size a b i j = exponential_term (abs a) i *ℚ exponential_term (abs b) j

  size_nonneg : (a b : ℚ) (i j : ℕ) → whole 0 ≤ℚ size a b i j
  size_nonneg a b i j =
      mul_nonneg (exponential_term (abs a) i) (exponential_term (abs b) j)
      (exponential_term_nonneg (abs a) (abs_nonneg a) i) (exponential_term_nonneg (abs b) (abs_nonneg b) j)

  place_small : (a b : ℚ) (i j : ℕ) → abs (place a b i j) ≤ℚ size a b i j
  place_small a b i j =
      let s = exponential_term a i in
      let t = exponential_term b j in
      shrunk (turned x y (degree i j)) (s *ℚ t) (size a b i j) (turned_small x y x_small y_small (degree i j))
      (abs-mul s t ∙ ap₂ ◌*ℚ◌ (abs-exponential_term a i) (abs-exponential_term b j)) (size_nonneg a b i j)

  place_square : (a b : ℚ) (m : ℕ) → square (place a b) m m
      ≡ turned_sum x y a m *ℚ turned_sum (whole 1) (whole 0) b m +ℚ turned_sum y (neg_ℚ x) a m *ℚ turned_sum (whole 0) (whole 1) b m
  unfolding turned_sum
  place_square a b m =
      let f : ℕ → ℚ = λ i. turned x y i *ℚ exponential_term a i in
      let g : ℕ → ℚ = λ j. cosine_coefficient j *ℚ exponential_term b j in
      let f' : ℕ → ℚ = λ i. turned y (neg_ℚ x) i *ℚ exponential_term a i in
      let g' : ℕ → ℚ = λ j. sine_coefficient j *ℚ exponential_term b j in
      square-same (place a b) (λ i j. f i *ℚ g j +ℚ f' i *ℚ g' j)
      (λ i j. ap (λ t. t *ℚ (exponential_term a i *ℚ exponential_term b j)) (turned-degree x y i j)
      ∙ ring ℚ_ring (turned x y i ∷ cosine_coefficient j ∷ turned y (neg_ℚ x) i ∷ sine_coefficient j ∷ exponential_term a i ∷ exponential_term b j ∷ [])
      ((var 0 ⊠ var 1 ⊞ var 2 ⊠ var 3) ⊠ (var 4 ⊠ var 5)) (var 0 ⊠ var 4 ⊠ (var 1 ⊠ var 5) ⊞ var 2 ⊠ var 4 ⊠ (var 3 ⊠ var 5)) refl) m m
      ∙ square-add (λ i j. f i *ℚ g j) (λ i j. f' i *ℚ g' j) m m
      ∙ ap₂ ◌+ℚ◌ (square-product f g m m) (square-product f' g' m m)

  place_triangle : (a b : ℚ) (m : ℕ) → triangle (place a b) m ≡ turned_sum x y (a +ℚ b) m
  unfolding turned_sum
  place_triangle a b m =
      sum_to-same (diagonal (place a b)) (λ k. turned x y k *ℚ exponential_term (a +ℚ b) k)
      (λ k. diagonal-level (turned x y) (λ i j. exponential_term a i *ℚ exponential_term b j) k ∙ ap (λ t. turned x y k *ℚ t) (binomial a b k)) m

  size_triangle : (a b : ℚ) (m : ℕ) → triangle (size a b) m ≡ exponential_sum (abs a +ℚ abs b) m
  size_triangle a b m = sum_to-same (diagonal (size a b)) (exponential_term (abs a +ℚ abs b)) (binomial (abs a) (abs b)) m

  -- the addition, up to the rest of the exponential series
  pub turned_addition : (a b : ℚ) (m : ℕ)
      → abs (turned_sum x y a m *ℚ turned_sum (whole 1) (whole 0) b m +ℚ turned_sum y (neg_ℚ x) a m *ℚ turned_sum (whole 0) (whole 1) b m
      -ℚ turned_sum x y (a +ℚ b) m)
      ≤ℚ exponential_sum (abs a +ℚ abs b) (degree m m) -ℚ exponential_sum (abs a +ℚ abs b) m
  turned_addition a b m =
      le_trans _ (square (size a b) m m -ℚ triangle (size a b) m) _
      (moved ℚ_ordered (ap abs (ap₂ ◌-ℚ◌ (place_square a b m) (place_triangle a b m))) refl
      (corner_at_most (place a b) (size a b) (place_small a b) m m (omega arith)))
      (moved ℚ_ordered refl (ap₂ ◌-ℚ◌ (size_triangle a b (degree m m)) (size_triangle a b m))
      (le₃ ℚ_ordered (λ s t u. s ⊟ t) (λ s t u. u ⊟ t) (λ s t u. le s u ∷ []) refl
      (square (size a b) m m) (triangle (size a b) m) (triangle (size a b) (degree m m)) (square_in_triangle (size a b) (size_nonneg a b) m m, tt)))

  -- the tail of such a sum is at most that of the exponential sum
  pub turned_tail : (z : ℚ) (m n : ℕ) → m ≤ n → abs (turned_sum x y z n -ℚ turned_sum x y z m) ≤ℚ exponential_sum (abs z) n -ℚ exponential_sum (abs z) m
  unfolding turned_sum
  turned_tail z m n l =
      tail_at_most (λ k. turned x y k *ℚ exponential_term z k) (exponential_term (abs z))
      (λ k. shrunk (turned x y k) (exponential_term z k) (exponential_term (abs z) k) (turned_small x y x_small y_small k)
      (abs-exponential_term z k) (exponential_term_nonneg (abs z) (abs_nonneg z) k)) m n l

  -- from w to z such a sum changes by at most as much as the exponential sum
  pub turned_change : (w z : ℚ) → whole 0 ≤ℚ w → w ≤ℚ z → (m : ℕ) → abs (turned_sum x y z m -ℚ turned_sum x y w m) ≤ℚ exponential_sum z m -ℚ exponential_sum w m
  unfolding turned_sum
  turned_change w z h l m =
      let f : ℕ → ℚ = λ k. turned x y k *ℚ exponential_term z k in
      let g : ℕ → ℚ = λ k. turned x y k *ℚ exponential_term w k in
      let rise : ℕ → ℚ = λ k. exponential_term z k -ℚ exponential_term w k in
      moved ℚ_ordered (sym (ap abs (sum_to-difference f g m))) (sym (sum_to-difference (exponential_term z) (exponential_term w) m))
      (sum_to_size (λ k. f k -ℚ g k) rise
      (λ k. let up = difference_nonneg (exponential_term w k) (exponential_term z k) (exponential_term_mono w z h l k) in
      moved ℚ_ordered
      (ap abs (ring₃ ℚ_ring (λ c s t. c ⊠ (s ⊟ t)) (λ c s t. c ⊠ s ⊟ c ⊠ t) refl (turned x y k) (exponential_term z k) (exponential_term w k))) refl
      (shrunk (turned x y k) (rise k) (rise k) (turned_small x y x_small y_small k) (abs_of_nonneg (rise k) up) up)) m)
