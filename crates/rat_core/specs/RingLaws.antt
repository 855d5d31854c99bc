-- Fractions are a commutative ring, and the whole numbers among them keep sums, products and negatives. What is shown of all
-- pairs holds of all fractions (`ind₁` to `ind₃`).
use mathlib.Core.Quot.{Quot-set, mk, sound, ind}
use Rattle.std.proofs.Common.{◌≡◌, refl, ap, ◌∙◌, ℤ, pos, ◌+ℤ◌, ◌-ℤ◌, ◌*ℤ◌, neg_ℤ}
use Rattle.ring_solver.specs.Expression.{num, ◌⊞◌, ◌⊠◌, opp}
use Rattle.ring_solver.proofs.Solver.{ring₂, ring₄, ring₆}
use Rattle.ring_solver.proofs.Whole.{ℤ_ring}
use Rattle.rat_core.specs.Ratio.{Ratio}
use Rattle.rat_core.specs.Fraction.{ℚ, ◌÷◌, whole, ◌+ℚ◌, ◌-ℚ◌, ◌*ℚ◌, neg_ℚ}

pub ind₁ : (P : ℚ → Type 0) → ((x : ℚ) → IsProp (P x)) → ((a : Ratio) → P (mk a)) → (x : ℚ) → P x
ind₁ P prop f x = ind {β = P} prop f x

pub ind₂ : (P : ℚ → ℚ → Type 0) → ((x y : ℚ) → IsProp (P x y)) → ((a b : Ratio) → P (mk a) (mk b)) → (x y : ℚ) → P x y
ind₂ P prop f x y = ind₁ (λ x. P x y) (λ x. prop x y) (λ a. ind₁ (λ y. P (mk a) y) (λ y. prop (mk a) y) (f a) y) x

pub ind₃ : (P : ℚ → ℚ → ℚ → Type 0) → ((x y z : ℚ) → IsProp (P x y z)) → ((a b c : Ratio) → P (mk a) (mk b) (mk c)) → (x y z : ℚ) → P x y z
ind₃ P prop f x y z = ind₂ (λ x y. P x y z) (λ x y. prop x y z) (λ a b. ind₁ (λ z. P (mk a) (mk b) z) (λ z. prop (mk a) (mk b) z) (f a b) z) x y

-- ---- the ring

pub add_assoc : (x y z : ℚ) → (x +ℚ y) +ℚ z ≡ x +ℚ (y +ℚ z)
unfolding ◌+ℚ◌
add_assoc = ind₃ (λ x y z. (x +ℚ y) +ℚ z ≡ x +ℚ (y +ℚ z)) (λ x y z. Quot-set _ _)
    (λ a b c. sound (ring₆ ℤ_ring
    (λ n d m e k f. ((n ⊠ e ⊞ m ⊠ d) ⊠ f ⊞ k ⊠ (d ⊠ e)) ⊠ (d ⊠ (e ⊠ f)))
    (λ n d m e k f. (n ⊠ (e ⊠ f) ⊞ (m ⊠ f ⊞ k ⊠ e) ⊠ d) ⊠ ((d ⊠ e) ⊠ f))
    refl a.num (pos a.den) b.num (pos b.den) c.num (pos c.den)))

pub add_comm : (x y : ℚ) → x +ℚ y ≡ y +ℚ x
unfolding ◌+ℚ◌
add_comm = ind₂ (λ x y. x +ℚ y ≡ y +ℚ x) (λ x y. Quot-set _ _)
    (λ a b. sound (ring₄ ℤ_ring (λ n d m e. (n ⊠ e ⊞ m ⊠ d) ⊠ (e ⊠ d)) (λ n d m e. (m ⊠ d ⊞ n ⊠ e) ⊠ (d ⊠ e)) refl a.num (pos a.den) b.num (pos b.den)))

pub add-zero : (x : ℚ) → x +ℚ whole 0 ≡ x
unfolding ◌+ℚ◌ ◌÷◌
add-zero = ind₁ (λ x. x +ℚ whole 0 ≡ x) (λ x. Quot-set _ _)
    (λ a. sound (ring₂ ℤ_ring (λ n d. (n ⊠ num 1 ⊞ num 0 ⊠ d) ⊠ d) (λ n d. n ⊠ (d ⊠ num 1)) refl a.num (pos a.den)))

pub add-neg : (x : ℚ) → x +ℚ neg_ℚ x ≡ whole 0
unfolding ◌+ℚ◌ neg_ℚ ◌÷◌
add-neg = ind₁ (λ x. x +ℚ neg_ℚ x ≡ whole 0) (λ x. Quot-set _ _)
    (λ a. sound (ring₂ ℤ_ring (λ n d. (n ⊠ d ⊞ opp n ⊠ d) ⊠ num 1) (λ n d. num 0 ⊠ (d ⊠ d)) refl a.num (pos a.den)))

pub mul_assoc : (x y z : ℚ) → (x *ℚ y) *ℚ z ≡ x *ℚ (y *ℚ z)
unfolding ◌*ℚ◌
mul_assoc = ind₃ (λ x y z. (x *ℚ y) *ℚ z ≡ x *ℚ (y *ℚ z)) (λ x y z. Quot-set _ _)
    (λ a b c. sound (ring₆ ℤ_ring (λ n d m e k f. ((n ⊠ m) ⊠ k) ⊠ (d ⊠ (e ⊠ f))) (λ n d m e k f. (n ⊠ (m ⊠ k)) ⊠ ((d ⊠ e) ⊠ f)) refl a.num
    (pos a.den) b.num (pos b.den) c.num (pos c.den)))

pub mul_comm : (x y : ℚ) → x *ℚ y ≡ y *ℚ x
unfolding ◌*ℚ◌
mul_comm = ind₂ (λ x y. x *ℚ y ≡ y *ℚ x) (λ x y. Quot-set _ _)
    (λ a b. sound (ring₄ ℤ_ring (λ n d m e. (n ⊠ m) ⊠ (e ⊠ d)) (λ n d m e. (m ⊠ n) ⊠ (d ⊠ e)) refl a.num (pos a.den) b.num (pos b.den)))

pub mul-one : (x : ℚ) → x *ℚ whole 1 ≡ x
unfolding ◌*ℚ◌ ◌÷◌
mul-one = ind₁ (λ x. x *ℚ whole 1 ≡ x) (λ x. Quot-set _ _)
    (λ a. sound (ring₂ ℤ_ring (λ n d. (n ⊠ num 1) ⊠ d) (λ n d. n ⊠ (d ⊠ num 1)) refl a.num (pos a.den)))

pub mul-add : (x y z : ℚ) → x *ℚ (y +ℚ z) ≡ x *ℚ y +ℚ x *ℚ z
unfolding ◌+ℚ◌ ◌*ℚ◌
mul-add = ind₃ (λ x y z. x *ℚ (y +ℚ z) ≡ x *ℚ y +ℚ x *ℚ z) (λ x y z. Quot-set _ _)
    (λ a b c. sound (ring₆ ℤ_ring
    (λ n d m e k f. (n ⊠ (m ⊠ f ⊞ k ⊠ e)) ⊠ ((d ⊠ e) ⊠ (d ⊠ f)))
    (λ n d m e k f. ((n ⊠ m) ⊠ (d ⊠ f) ⊞ (n ⊠ k) ⊠ (d ⊠ e)) ⊠ (d ⊠ (e ⊠ f)))
    refl a.num (pos a.den) b.num (pos b.den) c.num (pos c.den)))

-- whole numbers as fractions keep sums, products and negatives
pub int-add : (a b : ℤ) → (a +ℤ b) ÷ 1 ≡ a ÷ 1 +ℚ b ÷ 1
unfolding ◌+ℚ◌ ◌÷◌
int-add a b = sound (ring₂ ℤ_ring (λ a b. (a ⊞ b) ⊠ num 1) (λ a b. (a ⊠ num 1 ⊞ b ⊠ num 1) ⊠ num 1) refl a b)

pub int-mul : (a b : ℤ) → (a *ℤ b) ÷ 1 ≡ a ÷ 1 *ℚ b ÷ 1
unfolding ◌*ℚ◌ ◌÷◌
int-mul a b = sound (ring₂ ℤ_ring (λ a b. (a ⊠ b) ⊠ num 1) (λ a b. (a ⊠ b) ⊠ num 1) refl a b)

pub int-neg : (a : ℤ) → neg_ℤ a ÷ 1 ≡ neg_ℚ (a ÷ 1)
unfolding neg_ℚ ◌÷◌
int-neg a = refl

pub int-sub : (a b : ℤ) → (a -ℤ b) ÷ 1 ≡ a ÷ 1 -ℚ b ÷ 1
int-sub a b = int-add a (neg_ℤ b) ∙ ap (λ t. a ÷ 1 +ℚ t) (int-neg b)
