-- Fractions: pairs of a whole number and a positive one, where pairs with equal cross products are one fraction. So
-- equal fractions are equal, and whatever is computed with fractions does not see how they are written.
use mathlib.Core.Quot.{Quot, Quot-set, mk, sound, lift, ind}
use mathlib.Core.HLevel.{Π_set}
use Rattle.std.specs.Prelude.{◌≡◌, refl, ℕ, zero, suc, Bool, cond, not, T, ℤ, pos}
use Rattle.std.proofs.Math.Bool.{Bool-set}
use Rattle.std.proofs.Math.IntN.{ℤ_set}
use Rattle.std.proofs.Common.{zero-lt-suc}
use Rattle.rat_core.specs.Ratio.{Ratio, IsSame, sum_of, product_of, minus_of, is_at_most, floor_of}
use Rattle.rat_core.specs.Respect.{same_sum, same_product, same_minus, same_at_most, same_floor}

-- the classes of pairs with equal cross products
abbrev pub ℚ : Type 0
ℚ = Quot IsSame

-- f at two fractions, where it gives the same for the same fractions
abbrev pub lift₂ : {C : Type 0} → IsSet C → (f : Ratio → Ratio → C) → ((a a' b b' : Ratio) → IsSame a a' → IsSame b b' → f a b ≡ f a' b') → ℚ → ℚ → C
lift₂ {C} set f same =
    let at : Ratio → ℚ → C = λ a. lift set (f a) (λ b b'. same a a b b' refl) in
    lift (Π_set (λ _. set)) at (λ a a' h i y. ind {β = λ y. at a y ≡ at a' y} (λ y. set _ _) (λ b. same a a' b b h refl) y i)

-- n / d, and 0 where d is 0
infix 8 ◌÷◌
unfoldable pub ◌÷◌ : ℤ → ℕ → ℚ
n ÷ zero = mk (record { num = pos 0; den = 1; den_pos = zero-lt-suc 0 })
n ÷ (suc d) = mk (record { num = n; den = suc d; den_pos = zero-lt-suc d })

-- the whole number n
abbrev pub whole : ℕ → ℚ
whole n = pos n ÷ 1

infixl 6 ◌+ℚ◌ ◌-ℚ◌
infixl 7 ◌*ℚ◌
-- sum, product and negative: those of any pairs of the classes
unfoldable pub ◌+ℚ◌ : ℚ → ℚ → ℚ
◌+ℚ◌ = lift₂ Quot-set (λ a b. mk (sum_of a b)) (λ a a' b b' h k. sound (same_sum a a' b b' h k))

unfoldable pub ◌*ℚ◌ : ℚ → ℚ → ℚ
◌*ℚ◌ = lift₂ Quot-set (λ a b. mk (product_of a b)) (λ a a' b b' h k. sound (same_product a a' b b' h k))

unfoldable pub neg_ℚ : ℚ → ℚ
neg_ℚ = lift Quot-set (λ a. mk (minus_of a)) (λ a a' h. sound (same_minus a a' h))

abbrev pub ◌-ℚ◌ : ℚ → ℚ → ℚ
x -ℚ y = x +ℚ neg_ℚ y

-- the test of x ≤ y
unfoldable pub at_most : ℚ → ℚ → Bool
at_most = lift₂ Bool-set is_at_most same_at_most

infix 4 ◌≤ℚ◌ ◌<ℚ◌
-- the order: x < y where y ≤ x is not so
pub record ◌≤ℚ◌ (x y : ℚ) : Type 0 where
  pub le : T (at_most x y)

pub record ◌<ℚ◌ (x y : ℚ) : Type 0 where
  pub lt : T (not (at_most y x))

-- x, or its negative where x is below 0
abbrev pub abs : ℚ → ℚ
abs x = cond (at_most (whole 0) x) x (neg_ℚ x)

-- the greatest whole number that is at most x
unfoldable pub floor : ℚ → ℤ
floor = lift ℤ_set floor_of same_floor

-- x less the even whole number that brings it to 0 ≤ x < 2
abbrev pub wrapped : ℚ → ℚ
wrapped x = x -ℚ whole 2 *ℚ (floor (x *ℚ (pos 1 ÷ 2)) ÷ 1)
