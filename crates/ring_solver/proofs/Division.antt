-- Division of whole numbers by a positive one, rounded down.
use Rattle.std.proofs.Common.{◌≡◌, sym, ℕ, ◌+◌, ◌*◌, ◌/◌, ◌%◌, ◌-◌, ◌<◌, ℤ, pos, negsuc, ◌+ℤ◌, ◌*ℤ◌, ◌≤ℤ◌, ◌<ℤ◌, arith, div-add-mod', mod-lt}
use Rattle.std.proofs.Common.{lt_of_mul-lt-mul_right, subst₂, refl}
use Rattle.ring_solver.specs.Expression.{◌⊞◌, ◌⊠◌}
use Rattle.ring_solver.proofs.Solver.{ring₃}
use Rattle.ring_solver.proofs.Whole.{ℤ_ring, ≤ℤ_antisym, ≤ℤ-<ℤ_trans, *ℤ_mono, *ℤ_mono_back, *ℤ_mono_strict, *ℤ_mono_strict_back}
use Rattle.std.specs.Int.{int_div_euclid, int_rem_euclid}
use borrow.Author.Differences.{same_in, up, down, at_most_in, below_in, lt_out, sum_is_lem, product_is}

-- the quotient times the divisor is at most the number ..
pub div_euclid_low : (z : ℤ) (d : ℕ) → 0 < d → (int_div_euclid z (pos d) *ℤ pos d) ≤ℤ z
div_euclid_low (pos a) d p = at_most_in (pos (a / d) *ℤ pos d) (pos a) (omega (arith, product_is (pos (a / d)) (pos d), div-add-mod' a d))
div_euclid_low (negsuc a) d p = at_most_in (negsuc (a / d) *ℤ pos d) (negsuc a)
    (omega (arith, product_is (negsuc (a / d)) (pos d), div-add-mod' a d, mod-lt a p))

-- .. and less than a divisor below it
pub div_euclid_high : (z : ℤ) (d : ℕ) → 0 < d → z <ℤ (int_div_euclid z (pos d) *ℤ pos d +ℤ pos d)
div_euclid_high (pos a) d p =
    below_in (pos a) (pos (a / d) *ℤ pos d +ℤ pos d) (omega (
      arith,
      sum_is_lem (pos (a / d) *ℤ pos d) (pos d),
      product_is (pos (a / d))
          (pos d),
      div-add-mod' a d,
      mod-lt a p,
    ))
div_euclid_high (negsuc a) d p =
    below_in (negsuc a) (negsuc (a / d) *ℤ pos d +ℤ pos d) (omega
    (arith, sum_is_lem (negsuc (a / d) *ℤ pos d) (pos d), product_is (negsuc (a / d)) (pos d), div-add-mod' a d, mod-lt a p))

-- whole numbers with q d < (p + 1) d are q ≤ p
at_most_by : (q p : ℤ) (d : ℕ) → (q *ℤ pos d) <ℤ (p *ℤ pos d +ℤ pos d) → q ≤ℤ p
at_most_by q p d h =
    at_most_in q p
    (let k : (up q + down p) * d < (up p + down q + 1) * d = omega
    (arith, lt_out (q *ℤ pos d) (p *ℤ pos d +ℤ pos d) h, sum_is_lem (p *ℤ pos d) (pos d), product_is q (pos d), product_is p (pos d)) in
    let l : up q + down p < up p + down q + 1 = lt_of_mul-lt-mul_right d k in omega arith)

-- there is one such number
pub div_euclid_unique : (z q : ℤ) (d : ℕ) → 0 < d → (q *ℤ pos d) ≤ℤ z → z <ℤ (q *ℤ pos d +ℤ pos d) → int_div_euclid z (pos d) ≡ q
div_euclid_unique z q d p h k =
    ≤ℤ_antisym (int_div_euclid z (pos d)) q
    (at_most_by (int_div_euclid z (pos d)) q d (≤ℤ-<ℤ_trans (int_div_euclid z (pos d) *ℤ pos d) z (q *ℤ pos d +ℤ pos d) (div_euclid_low z d p) k))
    (at_most_by q (int_div_euclid z (pos d)) d (≤ℤ-<ℤ_trans (q *ℤ pos d) z (int_div_euclid z (pos d) *ℤ pos d +ℤ pos d) h (div_euclid_high z d p)))

-- equal fractions are rounded down to one number
pub div_euclid_same : (z y : ℤ) (d e : ℕ) → 0 < d → 0 < e → z *ℤ pos e ≡ y *ℤ pos d → int_div_euclid z (pos d) ≡ int_div_euclid y (pos e)
div_euclid_same z y d e p r h =
    let q = int_div_euclid y (pos e) in
    div_euclid_unique z q d p
    (*ℤ_mono_back (q *ℤ pos d) z e r
    (subst₂ ◌≤ℤ◌ (ring₃ ℤ_ring (λ q d e. (q ⊠ e) ⊠ d) (λ q d e. (q ⊠ d) ⊠ e) refl q (pos d) (pos e)) (sym h) (*ℤ_mono (q *ℤ pos e) y d (div_euclid_low y e r))))
    (*ℤ_mono_strict_back z (q *ℤ pos d +ℤ pos d) e
    (subst₂ ◌<ℤ◌ (sym h) (ring₃ ℤ_ring (λ q d e. (q ⊠ e ⊞ e) ⊠ d) (λ q d e. (q ⊠ d ⊞ d) ⊠ e) refl q (pos d) (pos e))
    (*ℤ_mono_strict y (q *ℤ pos e +ℤ pos e) d p (div_euclid_high y e r))))

-- the quotient and the remainder give the number back
pub div_rem_euclid : (z : ℤ) (d : ℕ) → 0 < d → int_div_euclid z (pos d) *ℤ pos d +ℤ int_rem_euclid z (pos d) ≡ z
div_rem_euclid (pos a) d p =
    same_in (pos (a / d) *ℤ pos d +ℤ pos (a % d)) (pos a) (omega
    (arith, sum_is_lem (pos (a / d) *ℤ pos d) (pos (a % d)), product_is (pos (a / d)) (pos d), div-add-mod' a d))
div_rem_euclid (negsuc a) d p =
    same_in (negsuc (a / d) *ℤ pos d +ℤ pos (d - 1 - a % d)) (negsuc a)
    (omega (arith, sum_is_lem (negsuc (a / d) *ℤ pos d) (pos (d - 1 - a % d)), product_is (negsuc (a / d)) (pos d), div-add-mod' a d, mod-lt a p))

-- the remainder is one of 0 .. d − 1
pub rem_euclid_below : (z : ℤ) (d : ℕ) → 0 < d → (r : ℕ) × (int_rem_euclid z (pos d) ≡ pos r) × (r < d)
rem_euclid_below (pos a) d p = (a % d, refl, mod-lt a p)
rem_euclid_below (negsuc a) d p = (d - 1 - a % d, refl, omega (arith, mod-lt a p))
