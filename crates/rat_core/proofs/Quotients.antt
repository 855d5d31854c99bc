-- Quotients over one denominator, and over two.
use Rattle.std.proofs.Common.{◌≡◌, refl, sym, ap, ◌∙◌, subst, ℕ, ◌+◌, ◌*◌, ◌<◌, ◌≤◌, ℤ, pos, neg_ℤ, ◌+ℤ◌, ◌-ℤ◌, ◌*ℤ◌, arith, mul-pos}
use Rattle.std.proofs.Math.Nat.{mul-le-mul_right}
use borrow.Author.Differences.{below_in}
use Rattle.ring_solver.specs.Expression.{◌⊞◌, ◌⊟◌, ◌⊠◌, opp}
use Rattle.ring_solver.proofs.Solver.{ring₃, ring₄}
use Rattle.ring_solver.proofs.Whole.{ℤ_ring, pos_le}
use Rattle.rat_core.specs.Fraction.{◌÷◌, whole, ◌+ℚ◌, ◌-ℚ◌, ◌≤ℚ◌, ◌<ℚ◌}
use Rattle.rat_core.proofs.Laws.{over_same, over-add, over-neg, over_le, over_lt}

-- quotients over one denominator are in the order of their numerators
pub over_mono : (m n d : ℕ) → 0 < d → m ≤ n → pos m ÷ d ≤ℚ pos n ÷ d
over_mono m n d p h = over_le (pos m) (pos n) d d p p (pos_le (m * d) (n * d) (mul-le-mul_right d h))

-- n / d is at most 1 where n is at most d, and below 1 where n is
pub over_at_most_one : (n d : ℕ) → 0 < d → n ≤ d → pos n ÷ d ≤ℚ whole 1
over_at_most_one n d p h = over_le (pos n) (pos 1) d 1 p (omega arith) (pos_le (n * 1) (1 * d) (omega arith))

pub over_below_one : (n d : ℕ) → 0 < d → n < d → pos n ÷ d <ℚ whole 1
over_below_one n d p h = over_lt (pos n) (pos 1) d 1 p (omega arith) (below_in (pos (n * 1)) (pos (1 * d)) (omega arith))

-- a sum over one denominator
pub over-add_same : (m n d : ℕ) → 0 < d → pos m ÷ d +ℚ pos n ÷ d ≡ pos (m + n) ÷ d
over-add_same m n d p =
    over-add (pos m) (pos n) d d p p
    ∙ over_same (pos m *ℤ pos d +ℤ pos n *ℤ pos d) (pos (m + n)) (d * d) d (mul-pos p p) p
    (ring₃ ℤ_ring (λ m n d. (m ⊠ d ⊞ n ⊠ d) ⊠ d) (λ m n d. (m ⊞ n) ⊠ (d ⊠ d)) refl (pos m) (pos n) (pos d))

-- two numerators that come to less than the denominator
pub sum_below_one : (m n d : ℕ) → 0 < d → m + n < d → pos m ÷ d +ℚ pos n ÷ d <ℚ whole 1
sum_below_one m n d p h = subst (λ t. t <ℚ whole 1) (sym (over-add_same m n d p)) (over_below_one (m + n) d p h)

-- a difference of quotients
pub over-sub : (n m : ℤ) (d e : ℕ) → 0 < d → 0 < e → n ÷ d -ℚ m ÷ e ≡ (n *ℤ pos e -ℤ m *ℤ pos d) ÷ (d * e)
over-sub n m d e p q =
    ap (λ t. n ÷ d +ℚ t) (over-neg m e q)
    ∙ over-add n (neg_ℤ m) d e p q
    ∙ ap (λ t. t ÷ (d * e)) (ring₄ ℤ_ring (λ n m d e. n ⊠ e ⊞ opp m ⊠ d) (λ n m d e. n ⊠ e ⊟ m ⊠ d) refl n m (pos d) (pos e))

-- a difference over one denominator
pub over-sub_same : (n m : ℤ) (d : ℕ) → 0 < d → n ÷ d -ℚ m ÷ d ≡ (n -ℤ m) ÷ d
over-sub_same n m d p =
    over-sub n m d d p p
    ∙ over_same (n *ℤ pos d -ℤ m *ℤ pos d) (n -ℤ m) (d * d) d (mul-pos p p) p
    (ring₃ ℤ_ring (λ n m d. (n ⊠ d ⊟ m ⊠ d) ⊠ d) (λ n m d. (n ⊟ m) ⊠ (d ⊠ d)) refl n m (pos d))
