-- Fractions are an ordered field: quotients, and the order for certificates.
use mathlib.Core.Quot.{Quot-set, mk, sound}
use Rattle.std.proofs.Common.{◌≡◌, refl, sym, ap, ap₂, ◌∙◌, subst, ℕ, zero, suc, ◌*◌, ◌<◌, Bool, true, false, not, T, ℤ, pos, ◌+ℤ◌, ◌*ℤ◌, neg_ℤ, ◌≤ℤ◌}
use Rattle.std.proofs.Common.{◌<ℤ◌, [], ◌∷◌, arith, mul-pos, T_not}
use Rattle.std.proofs.Math.Dec.{T_prop, not_T}
use Rattle.std.specs.Int.Signed.{≤ℤ_refl, le_z_yes, clash_ℤ}
use Rattle.std.specs.Prelude.{int_le}
use Rattle.ring_solver.specs.Ordered.{OrderedRing, times}
use Rattle.ring_solver.specs.Expression.{num, ◌⊞◌, ◌⊠◌}
use Rattle.ring_solver.proofs.Solver.{ring₂}
use Rattle.ring_solver.proofs.Certificate.{le₄, le₆, moved}
use mathlib.Core.HLevel.{Π_prop}
use borrow.Author.Differences.{below_in, le_in, le_not}
use Rattle.std.proofs.Math.IntN.{zero-*ℤ}
use Rattle.ring_solver.proofs.Whole.{ℤ_ring, ℤ_ordered, pos_le, ≤ℤ_antisym, *ℤ_mono_back}
use Rattle.rat_core.specs.Ratio.{Ratio}
use Rattle.rat_core.specs.Fraction.{ℚ, ◌÷◌, whole, ◌+ℚ◌, ◌*ℚ◌, neg_ℚ, at_most, ◌≤ℚ◌, ◌<ℚ◌}
pub use Rattle.rat_core.specs.Ring.{ℚ_ring, ℚ_image}
pub use Rattle.rat_core.specs.RingLaws.{ind₁, ind₂, ind₃, add_assoc, add_comm, add-zero, add-neg, mul_assoc}
pub use Rattle.rat_core.specs.RingLaws.{mul_comm, mul-one, mul-add, int-add, int-mul, int-neg, int-sub}

-- ---- division

-- n ÷ d times d is n
pub over-mul : (n : ℤ) (d : ℕ) → 0 < d → n ÷ d *ℚ whole d ≡ n ÷ 1
unfolding ◌*ℚ◌ ◌÷◌
over-mul n zero h = absurd (omega arith)
over-mul n (suc d) h = sound (ring₂ ℤ_ring (λ n d. (n ⊠ d) ⊠ num 1) (λ n d. n ⊠ (d ⊠ num 1)) refl n (pos (suc d)))

-- 0 ÷ d is 0, for every d
pub over-zero : (d : ℕ) → pos 0 ÷ d ≡ whole 0
unfolding ◌÷◌
over-zero zero = refl
over-zero (suc d) = sound (ring₂ ℤ_ring (λ d e. num 0 ⊠ num 1) (λ d e. num 0 ⊠ d) refl (pos (suc d)) (pos 0))

-- every pair is a quotient
pub over_at : (n : ℤ) (d : ℕ) (p : 0 < d) → ◌≡◌ {A = ℚ} (mk (record { num = n; den = d; den_pos = p })) (n ÷ d)
unfolding ◌÷◌
over_at n zero p = absurd (omega arith)
over_at n (suc d) p = sound refl

pub over_of : (a : Ratio) → ◌≡◌ {A = ℚ} (mk a) (a.num ÷ a.den)
over_of a = over_at a.num a.den a.den_pos

-- what holds of all quotients holds of all fractions
pub of_quotients : (P : ℚ → Type 0) → ((x : ℚ) → IsProp (P x)) → ((n : ℤ) (d : ℕ) → 0 < d → P (n ÷ d)) → (x : ℚ) → P x
of_quotients P prop f = ind₁ P prop (λ a. subst P (sym (over_of a)) (f a.num a.den a.den_pos))

-- quotients with equal cross products are equal
pub over_same : (n m : ℤ) (d e : ℕ) → 0 < d → 0 < e → n *ℤ pos e ≡ m *ℤ pos d → n ÷ d ≡ m ÷ e
over_same n m d e p q h = sym (over_at n d p) ∙ sound h ∙ over_at m e q

pub over-add : (n m : ℤ) (d e : ℕ) → 0 < d → 0 < e → n ÷ d +ℚ m ÷ e ≡ (n *ℤ pos e +ℤ m *ℤ pos d) ÷ (d * e)
unfolding ◌+ℚ◌
over-add n m d e p q = ap₂ ◌+ℚ◌ (sym (over_at n d p)) (sym (over_at m e q)) ∙ over_at (n *ℤ pos e +ℤ m *ℤ pos d) (d * e) (mul-pos p q)

pub over-product : (n m : ℤ) (d e : ℕ) → 0 < d → 0 < e → n ÷ d *ℚ m ÷ e ≡ (n *ℤ m) ÷ (d * e)
unfolding ◌*ℚ◌
over-product n m d e p q = ap₂ ◌*ℚ◌ (sym (over_at n d p)) (sym (over_at m e q)) ∙ over_at (n *ℤ m) (d * e) (mul-pos p q)

pub over-neg : (n : ℤ) (d : ℕ) → 0 < d → neg_ℚ (n ÷ d) ≡ neg_ℤ n ÷ d
unfolding neg_ℚ
over-neg n d p = ap neg_ℚ (sym (over_at n d p)) ∙ over_at (neg_ℤ n) d p

-- the order of quotients is that of the cross products
pub over-at_most : (n m : ℤ) (d e : ℕ) → 0 < d → 0 < e → at_most (n ÷ d) (m ÷ e) ≡ int_le (n *ℤ pos e) (m *ℤ pos d)
unfolding at_most
over-at_most n m d e p q = ap₂ at_most (sym (over_at n d p)) (sym (over_at m e q))

pub over_le : (n m : ℤ) (d e : ℕ) → 0 < d → 0 < e → (n *ℤ pos e) ≤ℤ (m *ℤ pos d) → n ÷ d ≤ℚ m ÷ e
over_le n m d e p q h = record { le = subst T (sym (over-at_most n m d e p q)) h.le }

pub over_le_back : (n m : ℤ) (d e : ℕ) → 0 < d → 0 < e → n ÷ d ≤ℚ m ÷ e → (n *ℤ pos e) ≤ℤ (m *ℤ pos d)
over_le_back n m d e p q h = record { le = subst T (over-at_most n m d e p q) h.le }

not_le : (a b : ℤ) → a <ℤ b → T (not (int_le b a))
not_le a b h = not_T (int_le b a) (λ t. clash_ℤ h (le_z_yes t))

pub over_lt : (n m : ℤ) (d e : ℕ) → 0 < d → 0 < e → (n *ℤ pos e) <ℤ (m *ℤ pos d) → n ÷ d <ℚ m ÷ e
over_lt n m d e p q h = record { lt = subst (λ t. T (not t)) (sym (over-at_most m n e d q p)) (not_le (n *ℤ pos e) (m *ℤ pos d) h) }

pub over_lt_back : (n m : ℤ) (d e : ℕ) → 0 < d → 0 < e → n ÷ d <ℚ m ÷ e → (n *ℤ pos e) <ℤ (m *ℤ pos d)
over_lt_back n m d e p q h =
    below_in (n *ℤ pos e) (m *ℤ pos d) (omega (arith, le_not (m *ℤ pos d) (n *ℤ pos e) (subst (λ t. T (not t)) (over-at_most m n e d q p) h.lt)))

-- ---- the order

pub le_prop : (x y : ℚ) → IsProp (x ≤ℚ y)
le_prop x y h k = ap (λ (t : T (at_most x y)). record { le = t }) (T_prop (at_most x y) h.le k.le)

pub lt_prop : (x y : ℚ) → IsProp (x <ℚ y)
lt_prop x y h k = ap (λ (t : T (not (at_most y x))). record { lt = t }) (T_prop (not (at_most y x)) h.lt k.lt)

pub le_refl : (x : ℚ) → x ≤ℚ x
unfolding at_most
le_refl = ind₁ (λ x. x ≤ℚ x) (λ x. le_prop x x) (λ a. record { le = (≤ℤ_refl (a.num *ℤ pos a.den)).le })

pub le_trans : (x y z : ℚ) → x ≤ℚ y → y ≤ℚ z → x ≤ℚ z
unfolding at_most
le_trans = ind₃ (λ x y z. x ≤ℚ y → y ≤ℚ z → x ≤ℚ z) (λ x y z. Π_prop (λ _. Π_prop (λ _. le_prop x z)))
    (λ a b c h k.
    let low : (a.num *ℤ pos c.den *ℤ pos b.den) ≤ℤ (c.num *ℤ pos a.den *ℤ pos b.den) =
    le₆ ℤ_ordered (λ n d m e k f. (n ⊠ f) ⊠ e) (λ n d m e k f. (k ⊠ d) ⊠ e) (λ n d m e k f. times f (n ⊠ e) (m ⊠ d) ∷ times d (m ⊠ f) (k ⊠ e) ∷ []) refl
    a.num (pos a.den) b.num (pos b.den) c.num (pos c.den) (pos_le 0 c.den (omega arith), le_z_yes h.le, (pos_le 0 a.den (omega arith), le_z_yes k.le, tt)) in
    record { le = (*ℤ_mono_back (a.num *ℤ pos c.den) (c.num *ℤ pos a.den) b.den b.den_pos low).le })

pub le_antisym : (x y : ℚ) → x ≤ℚ y → y ≤ℚ x → x ≡ y
unfolding at_most
le_antisym = ind₂ (λ x y. x ≤ℚ y → y ≤ℚ x → x ≡ y) (λ x y. Π_prop (λ _. Π_prop (λ _. Quot-set x y)))
    (λ a b h k. sound (≤ℤ_antisym (a.num *ℤ pos b.den) (b.num *ℤ pos a.den) (le_z_yes h.le) (le_z_yes k.le)))

-- what is not at most y is above y
pub lt_le : (x y : ℚ) → x <ℚ y → x ≤ℚ y
unfolding at_most
lt_le = ind₂ (λ x y. x <ℚ y → x ≤ℚ y) (λ x y. Π_prop (λ _. le_prop x y))
    (λ a b h. record { le = at_most_of_not (b.num *ℤ pos a.den) (a.num *ℤ pos b.den) h.lt })
  where
    at_most_of_not : (p q : ℤ) → T (not (int_le p q)) → T (int_le q p)
    at_most_of_not p q t = le_in q p (omega (arith, le_not p q t))

pub lt_not_le : {P : Type 0} (x y : ℚ) → x <ℚ y → y ≤ℚ x → P
lt_not_le x y h k = absurd (T_not (at_most y x) h.lt k.le)

-- by cases
pub le_or_lt : {P : Type 0} (x y : ℚ) → (x ≤ℚ y → P) → (y <ℚ x → P) → P
le_or_lt {P} x y f g = cases (at_most x y) (λ t. f (record { le = t })) (λ t. g (record { lt = t }))
  where
    cases : (b : Bool) → (T b → P) → (T (not b) → P) → P
    cases true f g = f tt
    cases false f g = g tt

pub add_mono : (z x y : ℚ) → x ≤ℚ y → z +ℚ x ≤ℚ z +ℚ y
unfolding at_most ◌+ℚ◌
add_mono = ind₃ (λ z x y. x ≤ℚ y → z +ℚ x ≤ℚ z +ℚ y) (λ z x y. Π_prop (λ _. le_prop (z +ℚ x) (z +ℚ y)))
    (λ c a b h. record {
      le = (le₆ ℤ_ordered (λ n d m e k f. (k ⊠ d ⊞ n ⊠ f) ⊠ (f ⊠ e)) (λ n d m e k f. (k ⊠ e ⊞ m ⊠ f) ⊠ (f ⊠ d))
          (λ n d m e k f. times (f ⊠ f) (n ⊠ e) (m ⊠ d) ∷ []) refl
          a.num (pos a.den) b.num (pos b.den) c.num (pos c.den) (pos_le 0 (c.den * c.den) (omega arith), le_z_yes h.le, tt)).le;
    })

pub mul_nonneg : (x y : ℚ) → whole 0 ≤ℚ x → whole 0 ≤ℚ y → whole 0 ≤ℚ x *ℚ y
unfolding at_most ◌*ℚ◌ ◌÷◌
mul_nonneg = ind₂ (λ x y. whole 0 ≤ℚ x → whole 0 ≤ℚ y → whole 0 ≤ℚ x *ℚ y) (λ x y. Π_prop (λ _. Π_prop (λ _. le_prop (whole 0) (x *ℚ y))))
    (λ a b h k. record {
      le = (le₄ ℤ_ordered (λ n d m e. num 0 ⊠ (d ⊠ e)) (λ n d m e. (n ⊠ m) ⊠ num 1) (λ n d m e. times (n ⊠ num 1) (num 0 ⊠ e) (m ⊠ num 1) ∷ []) refl
          a.num (pos a.den) b.num (pos b.den) (moved ℤ_ordered (zero-*ℤ (pos a.den)) refl (le_z_yes h.le), le_z_yes k.le, tt)).le;
    })

abbrev pub ℚ_ordered : OrderedRing
ℚ_ordered = record { ring = ℚ_ring; AtMost = ◌≤ℚ◌; at_most_refl = le_refl; at_most_trans = le_trans; add_mono = add_mono; mul_nonneg = mul_nonneg }
