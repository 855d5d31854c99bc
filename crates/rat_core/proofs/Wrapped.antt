-- The greatest whole number that is at most a fraction, and a fraction brought into one turn: 0 ≤ wrapped x < 2, and
-- wrapped x is the one fraction there that differs from x by an even whole number.
use Rattle.std.proofs.Common.{◌≡◌, refl, sym, ap, ◌∙◌, subst, subst₂, ℕ, ◌<◌, ℤ, pos, ◌+ℤ◌, ◌*ℤ◌, neg_ℤ, ◌≤ℤ◌, ◌<ℤ◌, [], ◌∷◌, lit<, mul-pos, ◌*◌, arith}
use Rattle.std.proofs.Math.IntN.{ℤ_set}
use Rattle.std.specs.Int.{int_div_euclid, int_rem_euclid}
use borrow.Author.Differences.{below_in}
use mathlib.Core.HLevel.{Π_prop}
use Rattle.ring_solver.specs.Expression.{opp, num, ◌⊞◌, ◌⊟◌, ◌⊠◌}
use Rattle.ring_solver.specs.Ordered.{le, times, same}
use Rattle.ring_solver.proofs.Solver.{ring, ring₂, ring₃}
use Rattle.ring_solver.proofs.Certificate.{le₁, le₃}
use Rattle.ring_solver.proofs.Whole.{ℤ_ring, *ℤ-pos_one}
use Rattle.ring_solver.proofs.Division.{div_euclid_low, div_euclid_high, div_euclid_unique, div_rem_euclid, rem_euclid_below}
use Rattle.rat_core.specs.Fraction.{ℚ, ◌÷◌, whole, ◌+ℚ◌, ◌-ℚ◌, ◌*ℚ◌, neg_ℚ, ◌≤ℚ◌, ◌<ℚ◌, floor, wrapped}
use Rattle.rat_core.proofs.Laws.{ℚ_ring, ℚ_ordered, of_quotients, over_at, le_prop, lt_prop, lt_not_le, over_le, over_le_back, over_lt, over_lt_back}
use Rattle.rat_core.proofs.Laws.{int-add, int-mul, int-neg, le_refl, lt_le, over-mul}
use Rattle.rat_core.proofs.Order.{lt_of_not_le, over_nonneg, difference_nonneg, whole_lt, whole_nonneg, cancel}

pub floor-over : (n : ℤ) (d : ℕ) → 0 < d → floor (n ÷ d) ≡ int_div_euclid n (pos d)
unfolding floor
floor-over n d p = ap floor (sym (over_at n d p))

pub floor_low : (x : ℚ) → floor x ÷ 1 ≤ℚ x
floor_low =
    of_quotients (λ x. floor x ÷ 1 ≤ℚ x) (λ x. le_prop (floor x ÷ 1) x)
    (λ n d p. rw (floor-over n d p) (over_le (int_div_euclid n (pos d)) n 1 d (lit< tt) p
    (subst (λ t. (int_div_euclid n (pos d) *ℤ pos d) ≤ℤ t) (sym (*ℤ-pos_one n)) (div_euclid_low n d p))))

-- n / d < k + 1 by whole numbers
below_next : (n k : ℤ) (d : ℕ) → (k +ℤ pos 1) *ℤ pos d ≡ k *ℤ pos d +ℤ pos d
below_next n k d = ring₂ ℤ_ring (λ k d. (k ⊞ num 1) ⊠ d) (λ k d. k ⊠ d ⊞ d) refl k (pos d)

pub floor_high : (x : ℚ) → x <ℚ floor x ÷ 1 +ℚ whole 1
floor_high =
    of_quotients (λ x. x <ℚ floor x ÷ 1 +ℚ whole 1) (λ x. lt_prop x (floor x ÷ 1 +ℚ whole 1))
    (λ n d p. let q = int_div_euclid n (pos d) in
    rw (floor-over n d p, ← int-add q (pos 1))
    (over_lt n (q +ℤ pos 1) d 1 p (lit< tt) (subst₂ ◌<ℤ◌ (sym (*ℤ-pos_one n)) (sym (below_next n q d)) (div_euclid_high n d p))))

pub floor_unique : (x : ℚ) (k : ℤ) → k ÷ 1 ≤ℚ x → x <ℚ k ÷ 1 +ℚ whole 1 → floor x ≡ k
floor_unique x k =
    of_quotients (λ x. k ÷ 1 ≤ℚ x → x <ℚ k ÷ 1 +ℚ whole 1 → floor x ≡ k) (λ x. Π_prop (λ _. Π_prop (λ _. ℤ_set (floor x) k)))
    (λ n d p h l. floor-over n d p
    ∙ div_euclid_unique n k d p
    (subst (λ t. (k *ℤ pos d) ≤ℤ t) (*ℤ-pos_one n) (over_le_back k n 1 d (lit< tt) p h))
    (subst₂ ◌<ℤ◌ (*ℤ-pos_one n) (below_next n k d) (over_lt_back n (k +ℤ pos 1) d 1 p (lit< tt) (subst (λ t. n ÷ d <ℚ t) (sym (int-add k (pos 1))) l)))) x

-- twice a half is one
twice_half : pos 1 ÷ 2 *ℚ whole 2 ≡ whole 1
twice_half = over-mul (pos 1) 2 (lit< tt)

-- ---- one turn

pub wrapped_low : (x : ℚ) → whole 0 ≤ℚ wrapped x
wrapped_low x =
    le₃ ℚ_ordered (λ x f h. num 0) (λ x f h. x ⊟ num 2 ⊠ f) (λ x f h. times (num 2) f (x ⊠ h) ∷ same x (h ⊠ num 2) (num 1) ∷ []) refl
    x (floor (x *ℚ (pos 1 ÷ 2)) ÷ 1) (pos 1 ÷ 2) (over_nonneg 2 1, floor_low (x *ℚ (pos 1 ÷ 2)), (twice_half, tt))

pub wrapped_high : (x : ℚ) → wrapped x <ℚ whole 2
wrapped_high x =
    lt_of_not_le (whole 2) (wrapped x) (λ l. lt_not_le (x *ℚ (pos 1 ÷ 2)) (floor (x *ℚ (pos 1 ÷ 2)) ÷ 1 +ℚ whole 1) (floor_high (x *ℚ (pos 1 ÷ 2)))
    (le₃ ℚ_ordered (λ x f h. f ⊞ num 1) (λ x f h. x ⊠ h) (λ x f h. times h (num 2) (x ⊟ num 2 ⊠ f) ∷ same (f ⊞ num 1) (num 1) (h ⊠ num 2) ∷ []) refl
    x (floor (x *ℚ (pos 1 ÷ 2)) ÷ 1) (pos 1 ÷ 2) (over_nonneg 1 2, l, (sym twice_half, tt))))

pub wrapped_unique : (x : ℚ) (k : ℤ) → whole 0 ≤ℚ x -ℚ whole 2 *ℚ (k ÷ 1) → x -ℚ whole 2 *ℚ (k ÷ 1) <ℚ whole 2 → wrapped x ≡ x -ℚ whole 2 *ℚ (k ÷ 1)
wrapped_unique x k low high =
    ap (λ j. x -ℚ whole 2 *ℚ (j ÷ 1))
    (floor_unique (x *ℚ (pos 1 ÷ 2)) k
    (le₃ ℚ_ordered (λ x k h. k) (λ x k h. x ⊠ h) (λ x k h. times h (num 0) (x ⊟ num 2 ⊠ k) ∷ same k (num 1) (h ⊠ num 2) ∷ []) refl
    x (k ÷ 1) (pos 1 ÷ 2) (over_nonneg 1 2, low, (sym twice_half, tt)))
    (lt_of_not_le (k ÷ 1 +ℚ whole 1) (x *ℚ (pos 1 ÷ 2)) (λ l. lt_not_le (x -ℚ whole 2 *ℚ (k ÷ 1)) (whole 2) high
    (le₃ ℚ_ordered (λ x k h. num 2) (λ x k h. x ⊟ num 2 ⊠ k) (λ x k h. times (num 2) (k ⊞ num 1) (x ⊠ h) ∷ same x (h ⊠ num 2) (num 1) ∷ []) refl
    x (k ÷ 1) (pos 1 ÷ 2) (over_nonneg 2 1, l, (twice_half, tt))))))

-- the same, where what is left is named y
pub wrapped_is : (x y : ℚ) (k : ℤ) → x -ℚ whole 2 *ℚ (k ÷ 1) ≡ y → whole 0 ≤ℚ y → y <ℚ whole 2 → wrapped x ≡ y
wrapped_is x y k e low high = wrapped_unique x k (subst (λ t. whole 0 ≤ℚ t) (sym e) low) (subst (λ t. t <ℚ whole 2) (sym e) high) ∙ e

-- the half turns that are taken off x: twice this whole number
abbrev turns : ℚ → ℤ
turns x = floor (x *ℚ (pos 1 ÷ 2))

-- whole turns make no difference
pub wrapped-turns : (x : ℚ) (k : ℤ) → wrapped (x +ℚ whole 2 *ℚ (k ÷ 1)) ≡ wrapped x
wrapped-turns x k =
    wrapped_is (x +ℚ whole 2 *ℚ (k ÷ 1)) (wrapped x) (turns x +ℤ k)
    (ap (λ t. x +ℚ whole 2 *ℚ (k ÷ 1) -ℚ whole 2 *ℚ t) (int-add (turns x) k)
    ∙ ring₃ ℚ_ring (λ x f k. x ⊞ num 2 ⊠ k ⊟ num 2 ⊠ (f ⊞ k)) (λ x f k. x ⊟ num 2 ⊠ f) refl x (turns x ÷ 1) (k ÷ 1))
    (wrapped_low x) (wrapped_high x)

-- half a turn more, in the first half of the turn and in the second
pub wrapped-half_low : (x : ℚ) → wrapped x <ℚ whole 1 → wrapped (x +ℚ whole 1) ≡ wrapped x +ℚ whole 1
wrapped-half_low x h =
    wrapped_is (x +ℚ whole 1) (wrapped x +ℚ whole 1) (turns x) (ring₂ ℚ_ring (λ x f. x ⊞ num 1 ⊟ num 2 ⊠ f) (λ x f. x ⊟ num 2 ⊠ f ⊞ num 1) refl x (turns x ÷ 1))
    (le₁ ℚ_ordered (λ w. num 0) (λ w. w ⊞ num 1) (λ w. le (num 0) w ∷ le (num 0) (num 1) ∷ []) refl (wrapped x) (wrapped_low x, (whole_nonneg 1, tt)))
    (lt_of_not_le (whole 2) (wrapped x +ℚ whole 1) (λ l. lt_not_le (wrapped x) (whole 1) h (le₁ ℚ_ordered (λ w. num 1) (λ w. w)
    (λ w. le (num 2) (w ⊞ num 1) ∷ []) refl (wrapped x) (l, tt))))

pub wrapped-half_high : (x : ℚ) → whole 1 ≤ℚ wrapped x → wrapped (x +ℚ whole 1) ≡ wrapped x -ℚ whole 1
wrapped-half_high x h =
    wrapped_is (x +ℚ whole 1) (wrapped x -ℚ whole 1) (turns x +ℤ pos 1)
    (ap (λ t. x +ℚ whole 1 -ℚ whole 2 *ℚ t) (int-add (turns x) (pos 1))
    ∙ ring₂ ℚ_ring (λ x f. x ⊞ num 1 ⊟ num 2 ⊠ (f ⊞ num 1)) (λ x f. x ⊟ num 2 ⊠ f ⊟ num 1) refl x (turns x ÷ 1))
    (difference_nonneg (whole 1) (wrapped x) h)
    (lt_of_not_le (whole 2) (wrapped x -ℚ whole 1) (λ l. lt_not_le (wrapped x) (whole 2) (wrapped_high x)
    (le₁ ℚ_ordered (λ w. num 2) (λ w. w) (λ w. le (num 2) (w ⊟ num 1) ∷ le (num 0) (num 1) ∷ []) refl (wrapped x) (l, (whole_nonneg 1, tt)))))

-- a quotient is brought into the turn by the remainder of its numerator
pub wrapped-over : (n : ℤ) (d : ℕ) → 0 < d → wrapped (n ÷ d) ≡ int_rem_euclid n (pos (2 * d)) ÷ d
wrapped-over n d p = wrapped_is (n ÷ d) (r ÷ d) k e low high
  where
    k : ℤ
    k = int_div_euclid n (pos (2 * d))

    r : ℤ
    r = int_rem_euclid n (pos (2 * d))

    p2 : 0 < 2 * d
    p2 = mul-pos (lit< tt) p

    parts : n ÷ 1 ≡ (k ÷ 1) *ℚ (whole 2 *ℚ whole d) +ℚ r ÷ 1
    parts =
        ap (λ z. z ÷ 1) (sym (div_rem_euclid n (2 * d) p2)) ∙ int-add (k *ℤ pos (2 * d)) r
        ∙ ap (λ t. t +ℚ r ÷ 1) (int-mul k (pos 2 *ℤ pos d) ∙ ap (λ t. (k ÷ 1) *ℚ t) (int-mul (pos 2) (pos d)))

    e : n ÷ d -ℚ whole 2 *ℚ (k ÷ 1) ≡ r ÷ d
    e = cancel d p (n ÷ d -ℚ whole 2 *ℚ (k ÷ 1)) (r ÷ d)
        (ring₃ ℚ_ring (λ x k d. (x ⊟ num 2 ⊠ k) ⊠ d) (λ x k d. x ⊠ d ⊟ k ⊠ (num 2 ⊠ d)) refl (n ÷ d) (k ÷ 1) (whole d)
        ∙ ap (λ t. t -ℚ (k ÷ 1) *ℚ (whole 2 *ℚ whole d)) (over-mul n d p ∙ parts)
        ∙ ring₂ ℚ_ring (λ a b. a ⊞ b ⊟ a) (λ a b. b) refl ((k ÷ 1) *ℚ (whole 2 *ℚ whole d)) (r ÷ 1)
        ∙ sym (over-mul r d p))

    below : (s : ℕ) × (r ≡ pos s) × (s < 2 * d)
    below = rem_euclid_below n (2 * d) p2

    low : whole 0 ≤ℚ r ÷ d
    low = subst (λ t. whole 0 ≤ℚ t ÷ d) (sym below.1) (over_nonneg below.0 d)

    high : r ÷ d <ℚ whole 2
    high = subst (λ t. t ÷ d <ℚ whole 2) (sym below.1) (over_lt (pos below.0) (pos 2) d 1 p (lit< tt)
        (below_in (pos below.0 *ℤ pos 1) (pos 2 *ℤ pos d) (let l = below.2 in omega arith)))

-- the negative of a fraction lies at the mirror image in the turn, or at 0 with it
pub wrapped-neg_inside : (x : ℚ) → whole 0 <ℚ wrapped x → wrapped (neg_ℚ x) ≡ whole 2 -ℚ wrapped x
wrapped-neg_inside x p =
    wrapped_is (neg_ℚ x) (whole 2 -ℚ wrapped x) (neg_ℤ (turns x +ℤ pos 1))
    (ap (λ t. neg_ℚ x -ℚ whole 2 *ℚ t) (int-neg (turns x +ℤ pos 1) ∙ ap neg_ℚ (int-add (turns x) (pos 1)))
    ∙ ring₂ ℚ_ring (λ x f. opp x ⊟ num 2 ⊠ opp (f ⊞ num 1)) (λ x f. num 2 ⊟ (x ⊟ num 2 ⊠ f)) refl x (turns x ÷ 1))
    (difference_nonneg (wrapped x) (whole 2) (lt_le (wrapped x) (whole 2) (wrapped_high x)))
    (lt_of_not_le (whole 2) (whole 2 -ℚ wrapped x) (λ l. lt_not_le (whole 0) (wrapped x) p (le₁ ℚ_ordered (λ w. w) (λ w. num 0)
    (λ w. le (num 2) (num 2 ⊟ w) ∷ []) refl (wrapped x) (l, tt))))

pub wrapped-neg_zero : (x : ℚ) → wrapped x ≡ whole 0 → wrapped (neg_ℚ x) ≡ whole 0
wrapped-neg_zero x z =
    wrapped_is (neg_ℚ x) (whole 0) (neg_ℤ (turns x))
    (ap (λ t. neg_ℚ x -ℚ whole 2 *ℚ t) (int-neg (turns x))
    ∙ ring₂ ℚ_ring (λ x f. opp x ⊟ num 2 ⊠ opp f) (λ x f. opp (x ⊟ num 2 ⊠ f)) refl x (turns x ÷ 1) ∙ ap neg_ℚ z
    ∙ ring ℚ_ring [] (opp (num 0)) (num 0) refl)
    (le_refl (whole 0)) (whole_lt 0 2 (lit< tt))
