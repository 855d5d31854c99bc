-- The order of two written fractions is that of their cross products, which fit 128 bits.
use Rattle.std.proofs.Common.{◌≡◌, sym, ap₂, ◌∙◌, ℕ, ◌<◌, ◌^◌, cond, ℤ, pos, negsuc, ◌*ℤ◌, ◌<ℤ◌, unsigned_abs, Less, Equal, Greater, int_cmp, int_le}
use Rattle.std.proofs.Common.{arith, ltb→lt, lit<, lit≤}
use Rattle.std.specs.Prelude.{FitsSigned}
use Rattle.std.proofs.lemmas.Int.{ints, fits_signed_from_abs, fits_signed_mul}
use mir.Syntax.{w128}
use Rattle.rat_core.specs.Fraction.{◌÷◌}
use Rattle.rat_core.specs.Written.{order_of}
use Rattle.rat_core.proofs.Laws.{over-at_most}

-- the comparison of whole numbers, by the tests of their order
int_cmp_is : (a b : ℤ) → int_cmp a b ≡ cond (int_le a b) (cond (int_le b a) Equal Less) Greater
int_cmp_is a b = grind (arith, ints)

order_of_over : (n m : ℤ) (d e : ℕ) → 0 < d → 0 < e → int_cmp (n *ℤ pos e) (m *ℤ pos d) ≡ order_of (n ÷ d) (m ÷ e)
order_of_over n m d e p q =
    int_cmp_is (n *ℤ pos e) (m *ℤ pos d)
    ∙ sym (ap₂ (λ s t. cond s (cond t Equal Less) Greater) (over-at_most n m d e p q) (over-at_most m n e d q p))

pub order_of_written : (n m d e : ℤ) → pos 0 <ℤ d → pos 0 <ℤ e → int_cmp (n *ℤ e) (m *ℤ d) ≡ order_of (n ÷ unsigned_abs d) (m ÷ unsigned_abs e)
order_of_written n m (pos d) (pos e) p q = order_of_over n m d e (ltb→lt 0 d p.lt) (ltb→lt 0 e q.lt)
order_of_written n m (pos d) (negsuc e) p q = absurd q.lt
order_of_written n m (negsuc d) e p q = absurd p.lt

-- numbers below 2^60 in size, and their products, fit
pub small_fits : (z : ℤ) → unsigned_abs z < 2 ^ 60 → FitsSigned w128 z
small_fits z h = fits_signed_from_abs w128 z (omega arith)

pub positive_small : (d : ℤ) → pos 0 <ℤ d → d <ℤ pos (2 ^ 60) → unsigned_abs d < 2 ^ 60
positive_small (pos d) p h = ltb→lt d (2 ^ 60) h.lt
positive_small (negsuc d) p h = absurd p.lt

pub product_fits : (a b : ℤ) → unsigned_abs a < 2 ^ 60 → unsigned_abs b < 2 ^ 60 → FitsSigned w128 (a *ℤ b)
product_fits a b h k = fits_signed_mul w128 a b (2 ^ 60) (2 ^ 60) (omega arith) (omega arith) (lit< tt)

pub twice_fits : (d : ℤ) → unsigned_abs d < 2 ^ 60 → FitsSigned w128 (pos 2 *ℤ d)
twice_fits d h = fits_signed_mul w128 (pos 2) d 2 (2 ^ 60) (lit≤ tt) (omega arith) (lit< tt)
