-- Sizes of differences, sums and products.
use Rattle.std.proofs.Common.{◌≡◌, refl, sym, ap, ◌∙◌, [], ◌∷◌}
use Rattle.ring_solver.specs.Expression.{num, ◌⊞◌, ◌⊟◌, ◌⊠◌, opp}
use Rattle.ring_solver.specs.Ordered.{le, times}
use Rattle.ring_solver.proofs.Solver.{ring₁, ring₂, ring₃}
use Rattle.ring_solver.proofs.Certificate.{le₂, le₄, moved, at_most_of_same}
use Rattle.rat_core.specs.Fraction.{ℚ, whole, ◌+ℚ◌, ◌-ℚ◌, ◌*ℚ◌, neg_ℚ, ◌≤ℚ◌, abs}
use Rattle.rat_core.proofs.Laws.{ℚ_ring, ℚ_ordered, le_trans, mul_nonneg}
use Rattle.rat_core.proofs.Order.{abs_cases, abs_le, abs-neg, abs_of_nonneg, abs_add_le, abs-mul, neg_nonneg, mul_mono_both}

-- the two bounds of a negative
pub negated_low : (v b : ℚ) → v ≤ℚ b → neg_ℚ b ≤ℚ neg_ℚ v
negated_low v b h = le₂ ℚ_ordered (λ v b. opp b) (λ v b. opp v) (λ v b. le v b ∷ []) refl v b (h, tt)

pub negated_high : (v b : ℚ) → neg_ℚ b ≤ℚ v → neg_ℚ v ≤ℚ b
negated_high v b h = le₂ ℚ_ordered (λ v b. opp v) (λ v b. b) (λ v b. le (opp b) v ∷ []) refl v b (h, tt)

pub abs_nonneg : (x : ℚ) → whole 0 ≤ℚ abs x
abs_nonneg x = abs_cases (λ a. whole 0 ≤ℚ a) x (λ h. h) (neg_nonneg x)

pub abs_add_three : (x y z : ℚ) → abs (x +ℚ y +ℚ z) ≤ℚ abs x +ℚ abs y +ℚ abs z
abs_add_three x y z =
    le_trans (abs (x +ℚ y +ℚ z)) (abs (x +ℚ y) +ℚ abs z) (abs x +ℚ abs y +ℚ abs z) (abs_add_le (x +ℚ y) z)
    (le₄ ℚ_ordered (λ s x y z. s ⊞ z) (λ s x y z. x ⊞ y ⊞ z) (λ s x y z. le s (x ⊞ y) ∷ []) refl
    (abs (x +ℚ y)) (abs x) (abs y) (abs z) (abs_add_le x y, tt))

-- a product of two numbers of sizes at most a and b
pub abs_product_le : (x y a b : ℚ) → abs x ≤ℚ a → abs y ≤ℚ b → abs (x *ℚ y) ≤ℚ a *ℚ b
abs_product_le x y a b h k =
    moved ℚ_ordered (sym (abs-mul x y)) refl
    (mul_mono_both (abs x) a (abs y) b (abs_nonneg y) (le_trans (whole 0) (abs x) a (abs_nonneg x) h) h k)

-- a distance is the same both ways
pub abs_swap : (x y : ℚ) → abs (x -ℚ y) ≡ abs (y -ℚ x)
abs_swap x y = sym (abs-neg (x -ℚ y)) ∙ ap abs (ring₂ ℚ_ring (λ x y. opp (x ⊟ y)) (λ x y. y ⊟ x) refl x y)

-- a distance by way of a third place
pub abs_by_way : (x y z : ℚ) → abs (z -ℚ x) ≤ℚ abs (y -ℚ x) +ℚ abs (z -ℚ y)
abs_by_way x y z = moved ℚ_ordered (ap abs (ring₃ ℚ_ring (λ x y z. y ⊟ x ⊞ (z ⊟ y)) (λ x y z. z ⊟ x) refl x y z)) refl (abs_add_le (y -ℚ x) (z -ℚ y))

pub abs-square : (z : ℚ) → abs z *ℚ abs z ≡ z *ℚ z
abs-square z = abs_cases (λ a. a *ℚ a ≡ z *ℚ z) z (λ _. refl) (λ _. ring₁ ℚ_ring (λ z. opp z ⊠ opp z) (λ z. z ⊠ z) refl z)

-- a factor u of size at most 1 makes nothing larger
pub abs_scaled_le : (u y b : ℚ) → neg_ℚ (whole 1) ≤ℚ u → u ≤ℚ whole 1 → abs y ≤ℚ b → abs (u *ℚ y) ≤ℚ b
abs_scaled_le u y b low high h =
    moved ℚ_ordered refl (ring₂ ℚ_ring (λ b c. num 1 ⊠ b) (λ b c. b) refl b b)
    (abs_product_le u y (whole 1) b (abs_le u (whole 1) high (negated_high u (whole 1) low)) h)

-- a factor of at least 0
pub abs_weighted_le : (w y b : ℚ) → whole 0 ≤ℚ w → abs y ≤ℚ b → abs (neg_ℚ (w *ℚ y)) ≤ℚ w *ℚ b
abs_weighted_le w y b nonneg h = moved ℚ_ordered (sym (abs-neg (w *ℚ y))) refl (abs_product_le w y w b (at_most_of_same ℚ_ordered (abs_of_nonneg w nonneg)) h)

-- a factor u of size at most 1 makes no square larger
pub square_scaled_le : (u y : ℚ) → neg_ℚ (whole 1) ≤ℚ u → u ≤ℚ whole 1 → whole 0 ≤ℚ y → (u *ℚ y) *ℚ (u *ℚ y) ≤ℚ y *ℚ y
square_scaled_le u y low high nonneg =
    le₂ ℚ_ordered (λ u y. u ⊠ y ⊠ (u ⊠ y)) (λ u y. y ⊠ y) (λ u y. times (y ⊠ y) (num 0) ((num 1 ⊟ u) ⊠ (num 1 ⊞ u)) ∷ []) refl u y (
      mul_nonneg y y nonneg nonneg,
      mul_nonneg (whole 1 -ℚ u) (whole 1 +ℚ u)
          (le₂ ℚ_ordered (λ u y. num 0) (λ u y. num 1 ⊟ u) (λ u y. le u (num 1) ∷ []) refl u y (high, tt))
          (le₂ ℚ_ordered (λ u y. num 0) (λ u y. num 1 ⊞ u) (λ u y. le (opp (num 1)) u ∷ []) refl u y (low, tt)),
      tt,
    )
