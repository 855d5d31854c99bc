-- What the constants of a scale between which the approximations of pi come to lie are themselves between.
use Rattle.std.proofs.Common.{◌≡◌, sym, subst, subst₂, ℕ, ◌+◌, ◌*◌, ◌^◌, ◌<◌, ◌≤◌, ℤ, pos, ◌+ℤ◌, ◌*ℤ◌, ◌≤ℤ◌, unsigned_abs, arith}
use Rattle.std.proofs.Math.Pow.{pow_mono}
use Rattle.std.proofs.lemmas.Int.{ints}
use Rattle.std.proofs.lemmas.Nat.{pow_pos}
use Rattle.ring_solver.proofs.Certificate.{mul_mono}
use Rattle.rat_core.specs.Fraction.{◌÷◌, whole, ◌*ℚ◌, ◌≤ℚ◌}
use Rattle.rat_core.proofs.Laws.{ℚ_ordered, le_trans, mul_assoc, int-mul}
use Rattle.rat_core.proofs.Order.{whole_nonneg, int_le_back}
use Rattle.trig_meaning.specs.PartialSums.{pi_sum}
use Rattle.trig_meaning.specs.FromSomeOn.{FromSomeOn}
use Rattle.trig_meaning.proofs.PiBetween.{scaled}
use Rattle.trig_meaning.proofs.PiSums.{pi_at_least_three, five_pi_at_most_sixteen}
use Rattle.directed_fixed.specs.Ends.{Encloses}

-- pi is from 3 to 16/5, so the constants of a scale are from 0 to 4
pub pi_units : (bits : ℕ) (lo hi : ℤ) → hi ≡ lo +ℤ pos 1 → FromSomeOn (λ n. Encloses bits (record { lo = lo; hi = hi }) (pi_sum n)) → (pos 0 ≤ℤ lo)
    × (hi ≤ℤ pos (4 * 2 ^ bits))
pi_units bits lo hi one_unit p =
    let n = p.0 + 16 in
    let enclosed = p.1 n (omega arith) in
    let units = whole (2 ^ bits) in
    let room : 0 < 2 ^ bits = pow_pos bits in
    let above : (pos 3 *ℤ pos (2 ^ bits)) ≤ℤ hi =
    int_le_back (pos 3 *ℤ pos (2 ^ bits)) hi
    (subst (λ t. t ≤ℚ hi ÷ 1) (sym (int-mul (pos 3) (pos (2 ^ bits))))
    (le_trans (whole 3 *ℚ units) (pi_sum n *ℚ units) (hi ÷ 1) (scaled bits (whole 3) (pi_sum n) (pi_at_least_three n (omega arith))) enclosed.high))
    in
    let below : (pos 5 *ℤ lo) ≤ℤ (pos 16 *ℤ pos (2 ^ bits)) =
    int_le_back (pos 5 *ℤ lo) (pos 16 *ℤ pos (2 ^ bits))
    (subst₂ ◌≤ℚ◌ (sym (int-mul (pos 5) lo)) (sym (int-mul (pos 16) (pos (2 ^ bits))))
    (le_trans (whole 5 *ℚ (lo ÷ 1)) (whole 5 *ℚ (pi_sum n *ℚ units)) (whole 16 *ℚ units)
    (mul_mono ℚ_ordered (whole 5) (lo ÷ 1) (pi_sum n *ℚ units) (whole_nonneg 5) enclosed.low)
    (subst (λ t. t ≤ℚ whole 16 *ℚ units) (mul_assoc (whole 5) (pi_sum n) units)
    (scaled bits (whole 5 *ℚ pi_sum n) (whole 16) (five_pi_at_most_sixteen n (omega arith))))))
    in
    (omega (arith, ints, sym one_unit), omega (arith, ints, sym one_unit))

-- so they are of at most 62 bits
pub pi_size : (bits : ℕ) (lo hi : ℤ) → bits ≤ 60 → FromSomeOn (λ n. Encloses bits (record { lo = lo; hi = hi }) (pi_sum n)) → hi ≡ lo +ℤ pos 1
    → (unsigned_abs lo ≤ 2 ^ 62) × (unsigned_abs hi ≤ 2 ^ 62)
pi_size bits lo hi room between next =
    let units = pi_units bits lo hi next between in
    let nonneg = units.0 in
    let small = units.1 in
    let many : 2 ^ bits ≤ 2 ^ 60 = pow_mono room in
    (omega (arith, ints), omega (arith, ints))
