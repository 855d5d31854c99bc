-- What functions have to reach at corners, as the machine computes it.
use Rattle.std.proofs.Common.{◌≡◌, sym, subst, ℕ, ◌+◌, ◌-◌, ◌*◌, ◌^◌, ◌<◌, ◌≤◌, ℤ, pos, negsuc, ◌+ℤ◌, ◌*ℤ◌, ◌≤ℤ◌, unsigned_abs, FitsSigned, true, arith}
use Rattle.std.proofs.Math.Pow.{pow_mono}
use Rattle.std.proofs.lemmas.Int.{ints}
use Rattle.std.proofs.lemmas.Nat.{pow_pos}
use Rattle.std.specs.Int.{w128}
use Rattle.trig_meaning.specs.PartialSums.{pi_sum}
use Rattle.trig_meaning.specs.FromSomeOn.{FromSomeOn}
use Rattle.directed_fixed.specs.Rounding.{IsCeiling}
use Rattle.directed_fixed.specs.Ends.{Encloses}
use Rattle.directed_fixed.proofs.Rounding.{product_size, rounded_size, rounded_at_least}
use Rattle.directed_fixed.proofs.PiSums.{pi_units, pi_size}
use Rattle.sine_fixed.proofs.Turning.{fits_128}
use Rattle.gradient_bounds.specs.declared.threshold.Measure.TheVariants.{Bend}
use Rattle.gradient_bounds.specs.Decision.{IsThreshold}
use Rattle.gradient_bounds.proofs.Computed.{pi_at_least, product_at_least, slack_between}

-- the square of pi in units has at most 64 bits
pub square_size : (bits : ℕ) (L H q : ℤ) → bits ≤ 60 → FromSomeOn (λ n. Encloses bits (record { lo = L; hi = H }) (pi_sum n)) → H ≡ L +ℤ pos 1
    → IsCeiling q (H *ℤ H) (pos (2 ^ bits)) → unsigned_abs q ≤ 2 ^ 64
square_size bits L H q room pi unit ceiling =
    let low = pi_at_least bits L H unit pi in
    let high = (pi_units bits L H unit pi).1 in
    let small : unsigned_abs H ≤ 4 * 2 ^ bits = omega (arith, ints) in
    let product : unsigned_abs (H *ℤ H) ≤ (4 * 2 ^ bits) * (4 * 2 ^ bits) = product_size H H (4 * 2 ^ bits) (4 * 2 ^ bits) small small in
    let parts : (4 * 2 ^ bits) * (4 * 2 ^ bits) ≡ (16 * 2 ^ bits) * 2 ^ bits = grind arith in
    let many : 2 ^ bits ≤ 2 ^ 60 = pow_mono room in
    let size : unsigned_abs q ≤ 16 * 2 ^ bits = rounded_size true q (H *ℤ H) (2 ^ bits) (16 * 2 ^ bits) (pow_pos bits) ceiling
    (omega (arith, product, parts)) in
    omega (arith, size, many)

-- and it is at least 0
pub square_at_least : (bits : ℕ) (L H q : ℤ) → FromSomeOn (λ n. Encloses bits (record { lo = L; hi = H }) (pi_sum n)) → H ≡ L +ℤ pos 1
    → IsCeiling q (H *ℤ H) (pos (2 ^ bits)) → pos 0 ≤ℤ q
square_at_least bits L H q pi unit ceiling =
    rounded_at_least true (pos 0) q (H *ℤ H) (2 ^ bits) (pow_pos bits) ceiling (no_multiple (2 ^ bits) (H *ℤ H) (square_nonneg H (pi_at_least bits L H unit pi)))
  where
    square_nonneg : (H : ℤ) → pos 0 ≤ℤ H → pos 0 ≤ℤ (H *ℤ H)
    square_nonneg (pos h) low = product_at_least (pos h) h low
    square_nonneg (negsuc h) low = absurd low.le

    no_multiple : (d : ℕ) (n : ℤ) → pos 0 ≤ℤ n → (pos 0 *ℤ pos d) ≤ℤ n
    no_multiple d n h = omega (arith, ints)

-- the numbers of the threshold at the corners of a box
pub record IsComputed (q m u : ℤ) : Type 0 where
  pub square : FitsSigned w128 q
  pub rate : FitsSigned w128 (pos 2 *ℤ q)
  pub parts : FitsSigned w128 m
  pub is_threshold : IsThreshold (record { measure = Bend; rate = pos 2 *ℤ q; parts = m; slack = u })

pub computed_of : (bits low level : ℕ) (q m u : ℤ) → bits ≤ 60 → level ≤ 20 → pos 0 ≤ℤ q → unsigned_abs q ≤ 2 ^ 64 → m ≡ pos (2 ^ (2 * level + 2))
    → u ≡ pos (2 ^ (bits - low)) → IsComputed q m u
computed_of bits low level q m u room deep at_least small m_is u_is =
    let exponent : 2 * level + 2 ≤ 42 = omega (arith, deep) in
    let parts = subst (λ z. (pos 1 ≤ℤ z) × (z ≤ℤ pos (2 ^ 42))) (sym m_is) (between (2 ^ (2 * level + 2)) (pow_pos (2 * level + 2)) (pow_mono exponent)) in
    let slack = slack_between bits low u room u_is in
    record {
      square = fits_128 q (omega (arith, small));
      rate = fits_128 (pos 2 *ℤ q) (twice q small);
      parts = fits_128 m (sized m parts.0 parts.1);
      is_threshold = record {
        rate_at_least = twice_at_least q at_least;
        rate_at_most = twice_at_most q small;
        parts_at_least = parts.0;
        parts_at_most = parts.1;
        slack_at_least = slack.0;
        slack_at_most = slack.1;
      };
    }
  where
    between : (n : ℕ) → 0 < n → n ≤ 2 ^ 42 → (pos 1 ≤ℤ pos n) × (pos n ≤ℤ pos (2 ^ 42))
    between n h k = (omega (arith, ints), omega (arith, ints))

    sized : (m : ℤ) → pos 1 ≤ℤ m → m ≤ℤ pos (2 ^ 42) → unsigned_abs m ≤ 2 ^ 120
    sized m h k = omega (arith, ints)

    twice : (q : ℤ) → unsigned_abs q ≤ 2 ^ 64 → unsigned_abs (pos 2 *ℤ q) ≤ 2 ^ 120
    twice q h = omega (arith, ints)

    twice_at_least : (q : ℤ) → pos 0 ≤ℤ q → pos 0 ≤ℤ (pos 2 *ℤ q)
    twice_at_least q h = omega (arith, ints)

    twice_at_most : (q : ℤ) → unsigned_abs q ≤ 2 ^ 64 → (pos 2 *ℤ q) ≤ℤ pos (2 ^ 66)
    twice_at_most q h = omega (arith, ints)

-- pi in units fits the product
pub record IsPi (H : ℤ) : Type 0 where
  pub fits : FitsSigned w128 H
  pub size : unsigned_abs H ≤ 2 ^ 63

pub pi_at : (bits : ℕ) (L P H : ℤ) → bits ≤ 60 → FromSomeOn (λ n. Encloses bits (record { lo = L; hi = P }) (pi_sum n)) → P ≡ L +ℤ pos 1 → H ≡ P → IsPi H
pi_at bits L P H room pi unit H_is =
    let size : unsigned_abs H ≤ 2 ^ 62 = subst (λ t. unsigned_abs t ≤ 2 ^ 62) (sym H_is) (pi_size bits L P room pi unit).1 in
    record { fits = fits_128 H (omega arith); size = omega arith }
