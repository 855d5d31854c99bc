-- The order of fractions, sizes, and whole numbers among the fractions. Most inequalities are certificates.
use mathlib.Core.HLevel.{Π_prop}
use Rattle.std.proofs.Common.{◌≡◌, refl, ap, ◌∙◌, ℕ, zero, suc, ◌*◌, ◌<◌, ◌≤◌, Bool, true, false, cond, not, T, ℤ, pos, unsigned_abs, ◌*ℤ◌, ◌≤ℤ◌}
use Rattle.std.proofs.Common.{◌<ℤ◌, [], ◌∷◌, lit<, arith, mul-pos, zero-lt-suc}
use Rattle.std.proofs.lemmas.Int.{ints}
use borrow.Author.Differences.{below_in}
use Rattle.ring_solver.specs.Expression.{var, num, ◌⊞◌, ◌⊟◌, ◌⊠◌, opp}
use Rattle.ring_solver.specs.Ordered.{le, times, same}
use Rattle.ring_solver.proofs.Solver.{ring₁, ring₂, ring₃, ring_by₂}
use Rattle.ring_solver.proofs.Certificate.{le₁, le₂, le₄, le₅, moved, add_mono_both}
use Rattle.ring_solver.proofs.Whole.{pos_le, *ℤ_mono, *ℤ_mono_back, *ℤ_mono_strict, *ℤ_mono_strict_back, ℤ_ring}
use Rattle.rat_core.specs.Fraction.{ℚ, ◌÷◌, whole, ◌+ℚ◌, ◌-ℚ◌, ◌*ℚ◌, neg_ℚ, at_most, ◌≤ℚ◌, ◌<ℚ◌, abs}
use Rattle.rat_core.proofs.Laws.{ℚ_ring, ℚ_ordered, of_quotients, le_prop, le_refl, le_trans, le_antisym, lt_le, lt_not_le, le_or_lt, over-mul}
use Rattle.rat_core.proofs.Laws.{over_le, over_le_back, over_lt, over_lt_back, over_same, over-product, mul_nonneg}

-- ---- the strict order

pub lt_of_not_le : (x y : ℚ) → ¬ (x ≤ℚ y) → y <ℚ x
lt_of_not_le x y n = le_or_lt x y (λ h. absurd (n h)) (λ k. k)

pub lt_le_trans : (x y z : ℚ) → x <ℚ y → y ≤ℚ z → x <ℚ z
lt_le_trans x y z h k = lt_of_not_le z x (λ l. lt_not_le x y h (le_trans y z x k l))

pub le_lt_trans : (x y z : ℚ) → x ≤ℚ y → y <ℚ z → x <ℚ z
le_lt_trans x y z h k = lt_of_not_le z x (λ l. lt_not_le y z k (le_trans z x y l h))

-- ---- whole numbers

pub int_le : (a b : ℤ) → a ≤ℤ b → a ÷ 1 ≤ℚ b ÷ 1
int_le a b h = over_le a b 1 1 (lit< tt) (lit< tt) (*ℤ_mono a b 1 h)

pub int_le_back : (a b : ℤ) → a ÷ 1 ≤ℚ b ÷ 1 → a ≤ℤ b
int_le_back a b h = *ℤ_mono_back a b 1 (lit< tt) (over_le_back a b 1 1 (lit< tt) (lit< tt) h)

pub int_lt : (a b : ℤ) → a <ℤ b → a ÷ 1 <ℚ b ÷ 1
int_lt a b h = over_lt a b 1 1 (lit< tt) (lit< tt) (*ℤ_mono_strict a b 1 (lit< tt) h)

pub int_lt_back : (a b : ℤ) → a ÷ 1 <ℚ b ÷ 1 → a <ℤ b
int_lt_back a b h = *ℤ_mono_strict_back a b 1 (over_lt_back a b 1 1 (lit< tt) (lit< tt) h)

pub whole_le : (m n : ℕ) → m ≤ n → whole m ≤ℚ whole n
whole_le m n h = int_le (pos m) (pos n) (pos_le m n h)

pub whole_lt : (m n : ℕ) → m < n → whole m <ℚ whole n
whole_lt m n h = int_lt (pos m) (pos n) (grind (arith, ints))

pub whole_nonneg : (n : ℕ) → whole 0 ≤ℚ whole n
whole_nonneg n = whole_le 0 n (omega arith)

-- ---- quotients

pub over_nonneg : (n d : ℕ) → whole 0 ≤ℚ pos n ÷ d
unfolding ◌÷◌
over_nonneg n zero = le_refl (whole 0)
over_nonneg n (suc d) = over_le (pos 0) (pos n) 1 (suc d) (lit< tt) (zero-lt-suc d) (grind (arith, ints))

pub over_positive : (n d : ℕ) → 0 < n → 0 < d → whole 0 <ℚ pos n ÷ d
over_positive n d p q = over_lt (pos 0) (pos n) 1 d (lit< tt) q (below_in (pos 0 *ℤ pos d) (pos n *ℤ pos 1) (omega arith))

-- a whole factor of an equation, and of an order
pub cancel : (k : ℕ) → 0 < k → (x y : ℚ) → x *ℚ whole k ≡ y *ℚ whole k → x ≡ y
cancel k p x y h =
    ring_by₂ ℚ_ring (x ∷ y ∷ whole k ∷ (pos 1 ÷ k) ∷ []) (var 0) (var 1) (var 1 ⊟ var 0) (var 3 ⊠ var 2) (num 1) (var 3) (var 0 ⊠ var 2)
    (var 1 ⊠ var 2) refl (over-mul (pos 1) k p) h

pub cancel_le : (k : ℕ) → 0 < k → (x y : ℚ) → x *ℚ whole k ≤ℚ y *ℚ whole k → x ≤ℚ y
cancel_le k p x y h =
    le₄ ℚ_ordered (λ x y k i. x) (λ x y k i. y) (λ x y k i. times i (x ⊠ k) (y ⊠ k) ∷ same (y ⊟ x) (i ⊠ k) (num 1) ∷ []) refl
    x y (whole k) (pos 1 ÷ k) (over_nonneg 1 k, h, (over-mul (pos 1) k p, tt))

-- a positive factor is cancelled from an order
pub cancel_positive : (t x y : ℚ) → whole 0 <ℚ t → t *ℚ x ≤ℚ t *ℚ y → x ≤ℚ y
cancel_positive t x y = of_quotients (λ t. whole 0 <ℚ t → t *ℚ x ≤ℚ t *ℚ y → x ≤ℚ y) (λ t. Π_prop (λ _. Π_prop (λ _. le_prop x y))) cancelled t
  where
    cancelled : (n : ℤ) (d : ℕ) → 0 < d → whole 0 <ℚ n ÷ d → n ÷ d *ℚ x ≤ℚ n ÷ d *ℚ y → x ≤ℚ y
    cancelled n d p positive h =
        let above : (pos 0 *ℤ pos d) <ℤ (n *ℤ pos 1) = over_lt_back (pos 0) n 1 d (lit< tt) p positive in
        let is : n ≡ pos (unsigned_abs n) = omega (arith, ints) in
        let product : n ÷ d *ℚ whole d ≡ whole (unsigned_abs n) = over-mul n d p ∙ ap (λ m. m ÷ 1) is in
        cancel_le (unsigned_abs n) (omega (arith, ints)) x y
        (le₅ ℚ_ordered (λ t x y d k. x ⊠ k) (λ t x y d k. y ⊠ k) (λ t x y d k. times d (t ⊠ x) (t ⊠ y) ∷ same (y ⊟ x) (t ⊠ d) k ∷ []) refl
        (n ÷ d) x y (whole d) (whole (unsigned_abs n)) (whole_nonneg d, h, (product, tt)))

-- a common factor of numerator and denominator
pub over_common : (n : ℤ) (d k : ℕ) → 0 < d → 0 < k → (n *ℤ pos k) ÷ (d * k) ≡ n ÷ d
over_common n d k p q = over_same (n *ℤ pos k) n (d * k) d (mul-pos p q) p (ring₃ ℤ_ring (λ n d k. (n ⊠ k) ⊠ d) (λ n d k. n ⊠ (d ⊠ k)) refl n (pos d) (pos k))

-- n / (c·d), times c, is n / d
pub over_part : (n : ℤ) (c d : ℕ) → 0 < c → 0 < d → n ÷ (c * d) *ℚ whole c ≡ n ÷ d
over_part n c d p q =
    over-product n (pos c) (c * d) 1 (mul-pos p q) (lit< tt)
    ∙ over_same (n *ℤ pos c) n (c * d * 1) d (mul-pos (mul-pos p q) (lit< tt)) q
    (ring₃ ℤ_ring (λ n c d. n ⊠ c ⊠ d) (λ n c d. n ⊠ (c ⊠ d ⊠ num 1)) refl n (pos c) (pos d))

-- ---- products and negatives

pub mul_mono_both : (x y z w : ℚ) → whole 0 ≤ℚ z → whole 0 ≤ℚ y → x ≤ℚ y → z ≤ℚ w → x *ℚ z ≤ℚ y *ℚ w
mul_mono_both x y z w p q h k = le₄ ℚ_ordered (λ x y z w. x ⊠ z) (λ x y z w. y ⊠ w) (λ x y z w. times z x y ∷ times y z w ∷ []) refl x y z w (p, h, (q, k, tt))

pub neg_nonneg : (x : ℚ) → x ≤ℚ whole 0 → whole 0 ≤ℚ neg_ℚ x
neg_nonneg x h = le₁ ℚ_ordered (λ x. num 0) (λ x. opp x) (λ x. le x (num 0) ∷ []) refl x (h, tt)

pub difference_nonneg : (x y : ℚ) → x ≤ℚ y → whole 0 ≤ℚ y -ℚ x
difference_nonneg x y h = le₂ ℚ_ordered (λ x y. num 0) (λ x y. y ⊟ x) (λ x y. le x y ∷ []) refl x y (h, tt)

-- ---- sizes

pub abs_cases : (P : ℚ → Type 0) (x : ℚ) → (whole 0 ≤ℚ x → P x) → (x ≤ℚ whole 0 → P (neg_ℚ x)) → P (abs x)
abs_cases P x f g = cases (at_most (whole 0) x) (λ t. f (record { le = t })) (λ t. g (lt_le x (whole 0) (record { lt = t })))
  where
    cases : (b : Bool) → (T b → P x) → (T (not b) → P (neg_ℚ x)) → P (cond b x (neg_ℚ x))
    cases true f g = f tt
    cases false f g = g tt

pub le_abs : (x : ℚ) → x ≤ℚ abs x
le_abs x = abs_cases (λ a. x ≤ℚ a) x (λ h. le_refl x) (λ h. le_trans x (whole 0) (neg_ℚ x) h (neg_nonneg x h))

pub neg_le_abs : (x : ℚ) → neg_ℚ x ≤ℚ abs x
neg_le_abs x = abs_cases (λ a. neg_ℚ x ≤ℚ a) x (λ h. le₁ ℚ_ordered (λ x. opp x) (λ x. x) (λ x. times (num 2) (num 0) x ∷
    []) refl x (whole_nonneg 2, h, tt)) (λ h. le_refl (neg_ℚ x))

-- a size is at most b where both signs are
pub abs_le : (x b : ℚ) → x ≤ℚ b → neg_ℚ x ≤ℚ b → abs x ≤ℚ b
abs_le x b h k = abs_cases (λ a. a ≤ℚ b) x (λ _. h) (λ _. k)

pub abs_of_nonneg : (x : ℚ) → whole 0 ≤ℚ x → abs x ≡ x
abs_of_nonneg x h = le_antisym (abs x) x (abs_le x x (le_refl x)
    (le₁ ℚ_ordered (λ x. opp x) (λ x. x) (λ x. times (num 2) (num 0) x ∷ []) refl x (whole_nonneg 2, h, tt))) (le_abs x)

pub abs-neg : (x : ℚ) → abs (neg_ℚ x) ≡ abs x
abs-neg x =
    le_antisym (abs (neg_ℚ x)) (abs x)
    (abs_le (neg_ℚ x) (abs x) (neg_le_abs x) (moved ℚ_ordered (ring₁ ℚ_ring (λ x. x) (λ x. opp (opp x)) refl x) refl (le_abs x)))
    (abs_le x (abs (neg_ℚ x)) (moved ℚ_ordered (ring₁ ℚ_ring (λ x. opp (opp x)) (λ x. x) refl x) refl (neg_le_abs (neg_ℚ x))) (le_abs (neg_ℚ x)))

pub abs_add_le : (x y : ℚ) → abs (x +ℚ y) ≤ℚ abs x +ℚ abs y
abs_add_le x y =
    abs_le (x +ℚ y) (abs x +ℚ abs y) (add_mono_both ℚ_ordered x (abs x) y (abs y) (le_abs x) (le_abs y))
    (moved ℚ_ordered (ring₂ ℚ_ring (λ x y. opp x ⊞ opp y) (λ x y. opp (x ⊞ y)) refl x y) refl
    (add_mono_both ℚ_ordered (neg_ℚ x) (abs x) (neg_ℚ y) (abs y) (neg_le_abs x) (neg_le_abs y)))

pub abs-mul : (x y : ℚ) → abs (x *ℚ y) ≡ abs x *ℚ abs y
abs-mul x y =
    abs_cases (λ a. abs (x *ℚ y) ≡ a *ℚ abs y) x
    (λ h. abs_cases (λ b. abs (x *ℚ y) ≡ x *ℚ b) y
    (λ k. abs_of_nonneg (x *ℚ y) (mul_nonneg x y h k))
    (λ k. turned (x *ℚ neg_ℚ y) (ring₂ ℚ_ring (λ x y. x ⊠ y) (λ x y. opp (x ⊠ opp y)) refl x y) (mul_nonneg x (neg_ℚ y) h (neg_nonneg y k))))
    (λ h. abs_cases (λ b. abs (x *ℚ y) ≡ neg_ℚ x *ℚ b) y
    (λ k. turned (neg_ℚ x *ℚ y) (ring₂ ℚ_ring (λ x y. x ⊠ y) (λ x y. opp (opp x ⊠ y)) refl x y) (mul_nonneg (neg_ℚ x) y (neg_nonneg x h) k))
    (λ k. ap abs (ring₂ ℚ_ring (λ x y. x ⊠ y) (λ x y. opp x ⊠ opp y) refl x y)
    ∙ abs_of_nonneg (neg_ℚ x *ℚ neg_ℚ y) (mul_nonneg (neg_ℚ x) (neg_ℚ y) (neg_nonneg x h) (neg_nonneg y k))))
  where
    turned : (z : ℚ) → x *ℚ y ≡ neg_ℚ z → whole 0 ≤ℚ z → abs (x *ℚ y) ≡ z
    turned z e h = ap abs e ∙ abs-neg z ∙ abs_of_nonneg z h
