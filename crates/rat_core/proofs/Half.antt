-- Doubling the denominator halves a fraction.
use Rattle.std.proofs.Common.{◌≡◌, refl, sym, ◌∙◌, ℕ, ◌*◌, ◌<◌, ℤ, pos, negsuc, ◌*ℤ◌, ◌<ℤ◌, unsigned_abs, lit<, ltb→lt, mul-pos}
use Rattle.ring_solver.specs.Expression.{num, ◌⊠◌}
use Rattle.ring_solver.proofs.Solver.{ring₂}
use Rattle.ring_solver.proofs.Whole.{ℤ_ring}
use Rattle.rat_core.specs.Fraction.{◌÷◌, ◌*ℚ◌}
use Rattle.rat_core.proofs.Laws.{over_same, over-product}

pub over_double : (n : ℤ) (d : ℕ) → 0 < d → n ÷ (2 * d) ≡ n ÷ d *ℚ (pos 1 ÷ 2)
over_double n d p =
    over_same n (n *ℤ pos 1) (2 * d) (d * 2) (mul-pos (lit< tt) p) (mul-pos p (lit< tt))
    (ring₂ ℤ_ring (λ n d. n ⊠ (d ⊠ num 2)) (λ n d. (n ⊠ num 1) ⊠ (num 2 ⊠ d)) refl n (pos d))
    ∙ sym (over-product n (pos 1) d 2 p (lit< tt))

pub over_double_written : (n d : ℤ) → pos 0 <ℤ d → n ÷ unsigned_abs (pos 2 *ℤ d) ≡ n ÷ unsigned_abs d *ℚ (pos 1 ÷ 2)
over_double_written n (pos d) p = over_double n d (ltb→lt 0 d p.lt)
over_double_written n (negsuc d) p = absurd p.lt
