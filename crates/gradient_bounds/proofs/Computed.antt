-- What a function needs, as the machine computes it: its parts fit their type, and are as they are defined.
use Rattle.std.proofs.Common.{◌≡◌, ◌↔◌, refl, sym, subst, ℕ, ◌+◌, ◌-◌, ◌*◌, ◌^◌, ◌<◌, ◌≤◌, ℤ, pos, negsuc, ◌+ℤ◌, ◌-ℤ◌, ◌*ℤ◌, neg_ℤ, ◌≤ℤ◌}
use Rattle.std.proofs.Common.{unsigned_abs, FitsSigned, true, arith}
use Rattle.std.proofs.Common.{mul-le-mul, ◌/◌}
use Rattle.std.proofs.Math.Nat.{mod-lt, div-le_self}
use Rattle.std.proofs.Math.Pow.{pow_mono}
use Rattle.std.proofs.lemmas.Nat.{div-add-mod', pow_pos}
use Rattle.std.proofs.lemmas.Int.{ints}
use Rattle.std.specs.Int.{w128, int_div_euclid}
use Rattle.trig_meaning.specs.PartialSums.{pi_sum}
use Rattle.trig_meaning.specs.FromSomeOn.{FromSomeOn}
use Rattle.ring_solver.proofs.Whole.{≤ℤ_trans, *ℤ_mono}
use Rattle.directed_fixed.specs.Rounding.{IsFloor, IsCeiling}
use Rattle.directed_fixed.specs.Ends.{Encloses}
use Rattle.directed_fixed.proofs.Rounding.{product_size, floor_of_division, ceiling_of_floor, rounded_mono, rounded_at_least, rounded_at_most}
use Rattle.directed_fixed.proofs.PiSums.{pi_units}
use Rattle.exp_sums.specs.declared.sizes.Sizes.{Sizes}
use Rattle.defining_functions.specs.Sizes.{AreSmall}
use Rattle.gradient_bounds.specs.declared.threshold.Measure.{Measure}
use Rattle.gradient_bounds.specs.declared.threshold.Measure.TheVariants.{Reach, Bend}
use Rattle.gradient_bounds.specs.Decision.{rounded_up, measured}
use Rattle.sine_fixed.proofs.Turning.{fits_128}

-- ---- the numbers of a threshold

-- a rate and a size, and their product
pub record IsProduct (R z : ℤ) : Type 0 where
  pub rate : FitsSigned w128 R
  pub factor : FitsSigned w128 z
  pub product : FitsSigned w128 (R *ℤ z)
  pub at_least : pos 0 ≤ℤ (R *ℤ z)
  pub size : unsigned_abs (R *ℤ z) ≤ 2 ^ 97

-- a rate of at least 0 times a size is at least 0
pub product_at_least : (R : ℤ) (n : ℕ) → pos 0 ≤ℤ R → pos 0 ≤ℤ (R *ℤ pos n)
product_at_least (pos r) n low = omega (arith, ints)
product_at_least (negsuc r) n low = absurd low.le

pub product_of : (R from : ℤ) (n : ℕ) → pos 0 ≤ℤ R → R ≤ℤ pos (2 ^ 66) → n ≤ 1107558400 → from ≡ pos n → IsProduct R from
product_of R from n low high small from_is =
    let R_small : unsigned_abs R ≤ 2 ^ 66 = omega (arith, ints, low, high) in
    let n_small : unsigned_abs (pos n) ≤ 2 ^ 31 = omega (arith, small) in
    let product : unsigned_abs (R *ℤ pos n) ≤ 2 ^ 66 * 2 ^ 31 = product_size R (pos n) (2 ^ 66) (2 ^ 31) R_small n_small in
    let size : unsigned_abs (R *ℤ pos n) ≤ 2 ^ 97 = omega (arith, product) in
    subst (IsProduct R) (sym from_is) (record {
      rate = fits_128 R (omega (arith, R_small));
      factor = fits_128 (pos n) (omega (arith, n_small));
      product = fits_128 (R *ℤ pos n) (omega (arith, size));
      at_least = product_at_least R n low;
      size = size;
    })

-- what a threshold measures is small
pub measured_small : (m : Measure) (s : Sizes) → AreSmall s → measured m s ≤ 1107558400
measured_small Reach s h = omega (arith, h.reach)
measured_small Bend s h = h.bend

-- a slack, a weight and the margin
pub record IsMargin (w : ℕ) (u z : ℤ) : Type 0 where
  pub slack : FitsSigned w128 u
  pub weight : FitsSigned w128 z
  pub factor : FitsSigned w128 (pos 1 +ℤ z)
  pub product : FitsSigned w128 (u *ℤ (pos 1 +ℤ z))
  pub is : u *ℤ (pos 1 +ℤ z) ≡ u *ℤ pos (1 + w)
  pub size : unsigned_abs (u *ℤ (pos 1 +ℤ z)) ≤ 2 ^ 76

pub margin_of : (w : ℕ) (u from : ℤ) → pos 1 ≤ℤ u → u ≤ℤ pos (2 ^ 60) → w ≤ 32768 → from ≡ pos w → IsMargin w u from
margin_of w u from low high light from_is =
    let u_small : unsigned_abs u ≤ 2 ^ 60 = omega (arith, ints, low, high) in
    let factor : unsigned_abs (pos (1 + w)) ≤ 2 ^ 16 = omega (arith, light) in
    let product : unsigned_abs (u *ℤ pos (1 + w)) ≤ 2 ^ 60 * 2 ^ 16 = product_size u (pos (1 + w)) (2 ^ 60) (2 ^ 16) u_small factor in
    let size : unsigned_abs (u *ℤ pos (1 + w)) ≤ 2 ^ 76 = omega (arith, product) in
    subst (IsMargin w u) (sym from_is) (record {
      slack = fits_128 u (omega (arith, u_small));
      weight = fits_128 (pos w) (omega (arith, light));
      factor = fits_128 (pos (1 + w)) (omega (arith, factor));
      product = fits_128 (u *ℤ pos (1 + w)) (omega (arith, size));
      is = refl;
      size = size;
    })

-- a threshold's margin is at least one unit
pub margin_at_least : (u : ℤ) (w : ℕ) → pos 1 ≤ℤ u → pos 1 ≤ℤ (u *ℤ pos (1 + w))
margin_at_least (pos u) w low =
    let some : 1 ≤ u = omega (arith, ints, low) in
    let more : 1 ≤ 1 + w = omega arith in
    as_whole (u * (1 + w)) (mul-le-mul some more)
  where
    as_whole : (n : ℕ) → 1 * 1 ≤ n → pos 1 ≤ℤ pos n
    as_whole n h = omega (arith, ints)
margin_at_least (negsuc u) w low = absurd low.le

-- a slack 2^−low in units
pub slack_between : (bits low : ℕ) (u : ℤ) → bits ≤ 60 → u ≡ pos (2 ^ (bits - low)) → (pos 1 ≤ℤ u) × (u ≤ℤ pos (2 ^ 60))
slack_between bits low u room is =
    let below : bits - low ≤ 60 = omega (arith, room) in
    subst (λ z. (pos 1 ≤ℤ z) × (z ≤ℤ pos (2 ^ 60))) (sym is) (between (2 ^ (bits - low)) (pow_pos (bits - low)) (pow_mono below))
  where
    between : (n : ℕ) → 0 < n → n ≤ 2 ^ 60 → (pos 1 ≤ℤ pos n) × (pos n ≤ℤ pos (2 ^ 60))
    between n h k = (omega (arith, ints), omega (arith, ints))

-- pi in units, and the radius
pub record IsRate (H p : ℤ) : Type 0 where
  pub pi : FitsSigned w128 H
  pub radius : FitsSigned w128 p
  pub rate : FitsSigned w128 (H *ℤ p)
  pub at_least : pos 0 ≤ℤ (H *ℤ p)
  pub at_most : (H *ℤ p) ≤ℤ pos (2 ^ 66)

pub rate_of : (H p : ℤ) → pos 0 ≤ℤ H → unsigned_abs H ≤ 2 ^ 62 → pos 0 ≤ℤ p → p ≤ℤ pos 1 → IsRate H p
rate_of H (pos p) low small low' high =
    let one : unsigned_abs (pos p) ≤ 1 = omega (arith, ints, high) in
    let product : unsigned_abs (H *ℤ pos p) ≤ 2 ^ 62 * 1 = product_size H (pos p) (2 ^ 62) 1 small one in
    record {
      pi = fits_128 H (omega (arith, small));
      radius = fits_128 (pos p) (omega (arith, one));
      rate = fits_128 (H *ℤ pos p) (omega (arith, product));
      at_least = product_at_least H p low;
      at_most = below (H *ℤ pos p) (omega (arith, product));
    }
  where
    below : (z : ℤ) → unsigned_abs z ≤ 2 ^ 62 → z ≤ℤ pos (2 ^ 66)
    below z h = omega (arith, ints)
rate_of H (negsuc p) low small low' high = absurd low'.le

-- ---- rounding up

-- what is rounded up is the ceiling, and there is one ceiling
rounded_up_ceiling : (n : ℤ) (d : ℕ) → 0 < d → IsCeiling (rounded_up n (pos d)) n (pos d)
rounded_up_ceiling n d h =
    let floor : IsFloor (int_div_euclid (neg_ℤ n) (pos d)) (neg_ℤ n) (pos d) = floor_of_division (neg_ℤ n) (pos d) (omega (arith, ints)) in
    let negative : neg_ℤ n ≡ pos 0 -ℤ n = omega (arith, ints) in
    let back : pos 0 -ℤ int_div_euclid (neg_ℤ n) (pos d) ≡ rounded_up n (pos d) = omega (arith, ints) in
    subst (λ q. IsCeiling q n (pos d)) back
    (ceiling_of_floor (int_div_euclid (neg_ℤ n) (pos d)) n (pos d) (subst (λ m. IsFloor (int_div_euclid (neg_ℤ n) (pos d)) m (pos d)) negative floor))

pub rounded_up_is_ceiling : (n d : ℤ) → pos 1 ≤ℤ d → IsCeiling (rounded_up n d) n d
rounded_up_is_ceiling n (pos d) positive = rounded_up_ceiling n d (omega (arith, ints))
rounded_up_is_ceiling n (negsuc d) positive = absurd positive.le

pub ceiling_is : (q n d : ℤ) → pos 1 ≤ℤ d → IsCeiling q n d → q ≡ rounded_up n d
ceiling_is q n (pos d) positive h =
    let p : 0 < d = omega (arith, ints) in
    let other = rounded_up_ceiling n d p in
    let up : q ≤ℤ rounded_up n (pos d) = rounded_mono true q n (rounded_up n (pos d)) n d p h other (same_at_most n) in
    let down : rounded_up n (pos d) ≤ℤ q = rounded_mono true (rounded_up n (pos d)) n q n d p other h (same_at_most n) in
    both_at_most q (rounded_up n (pos d)) up down
  where
    same_at_most : (n : ℤ) → n ≤ℤ n
    same_at_most n = omega (arith, ints)

    both_at_most : (a b : ℤ) → a ≤ℤ b → b ≤ℤ a → a ≡ b
    both_at_most a b h k = omega (arith, ints)
ceiling_is q n (negsuc d) positive h = absurd positive.le

-- a number from 0 on is its size
pub is_its_size : (z : ℤ) → pos 0 ≤ℤ z → z ≡ pos (unsigned_abs z)
is_its_size z h = omega (arith, ints)

-- what is rounded up from 0 on is at least 0
pub rounded_up_at_least : (n d : ℤ) → pos 0 ≤ℤ n → pos 1 ≤ℤ d → pos 0 ≤ℤ rounded_up n d
rounded_up_at_least n (pos d) low positive = rounded_at_least true (pos 0) (rounded_up n (pos d)) n d (omega (arith, ints))
    (rounded_up_is_ceiling n (pos d) positive) (no_multiple d n low)
  where
    no_multiple : (d : ℕ) (n : ℤ) → pos 0 ≤ℤ n → (pos 0 *ℤ pos d) ≤ℤ n
    no_multiple d n h = omega (arith, ints)
rounded_up_at_least n (negsuc d) low positive = absurd positive.le

pub rounded_up_mono : (m n d : ℤ) → pos 1 ≤ℤ d → m ≤ℤ n → rounded_up m d ≤ℤ rounded_up n d
rounded_up_mono m n (pos d) positive h = rounded_mono true (rounded_up m (pos d)) m (rounded_up n (pos d)) n d (omega (arith, ints))
    (rounded_up_is_ceiling m (pos d) positive) (rounded_up_is_ceiling n (pos d) positive) h
rounded_up_mono m n (negsuc d) positive h = absurd positive.le

-- pi is at least 0, in units
pub pi_at_least : (bits : ℕ) (L H : ℤ) → H ≡ L +ℤ pos 1 → FromSomeOn (λ n. Encloses bits (record { lo = L; hi = H }) (pi_sum n)) → pos 0 ≤ℤ H
pi_at_least bits L H unit pi = above L H (pi_units bits L H unit pi).0 unit
  where
    above : (L H : ℤ) → pos 0 ≤ℤ L → H ≡ L +ℤ pos 1 → pos 0 ≤ℤ H
    above L H h k = omega (arith, ints)

-- ---- what is needed

-- the errors at a weight, and the margin
pub record IsAllowance (w : ℕ) (from M : ℤ) : Type 0 where
  pub weight : FitsSigned w128 from
  pub margin : FitsSigned w128 M
  pub errors : FitsSigned w128 (pos 256 *ℤ from)
  pub sum : FitsSigned w128 (pos 256 *ℤ from +ℤ M)
  pub is : pos 256 *ℤ from +ℤ M ≡ pos (256 * w) +ℤ M
  pub size : unsigned_abs (pos 256 *ℤ from +ℤ M) ≤ 2 ^ 77

pub allowance_of : (w : ℕ) (from M : ℤ) → w ≤ 32768 → from ≡ pos w → unsigned_abs M ≤ 2 ^ 76 → IsAllowance w from M
allowance_of w from M light from_is small = subst (λ z. IsAllowance w z M) (sym from_is) (record {
  weight = fits_128 (pos w) (omega arith);
  margin = fits_128 M (omega arith);
  errors = fits_128 (pos (256 * w)) (omega arith);
  sum = fits_128 (pos (256 * w) +ℤ M) (larger (256 * w) M (omega arith) small);
  is = refl;
  size = added (256 * w) M (omega arith) small;
})
  where
    added : (n : ℕ) (M : ℤ) → n ≤ 2 ^ 30 → unsigned_abs M ≤ 2 ^ 76 → unsigned_abs (pos n +ℤ M) ≤ 2 ^ 77
    added n M h k = omega (arith, ints)

    larger : (n : ℕ) (M : ℤ) → n ≤ 2 ^ 30 → unsigned_abs M ≤ 2 ^ 76 → unsigned_abs (pos n +ℤ M) ≤ 2 ^ 120
    larger n M h k = omega (arith, ints)

-- A difference t less an allowance A, times the parts. The other side of the comparison is n.
pub record IsCompared (t A d n : ℤ) : Type 0 where
  pub allowance : FitsSigned w128 A
  pub rest : FitsSigned w128 (t -ℤ A)
  pub denominator : FitsSigned w128 d
  pub product : FitsSigned w128 ((t -ℤ A) *ℤ d)
  pub other : FitsSigned w128 n

pub compared_of : (t A n d : ℤ) → pos 1 ≤ℤ d → d ≤ℤ pos (2 ^ 42) → unsigned_abs t ≤ 2 ^ 77 → unsigned_abs A ≤ 2 ^ 77 → FitsSigned w128 n → IsCompared t A d n
compared_of t A n d low high h k other =
    let rest : unsigned_abs (t -ℤ A) ≤ 2 ^ 78 = taken t A h k in
    let small : unsigned_abs d ≤ 2 ^ 42 = sized d low high in
    let product : unsigned_abs ((t -ℤ A) *ℤ d) ≤ 2 ^ 78 * 2 ^ 42 = product_size (t -ℤ A) d (2 ^ 78) (2 ^ 42) rest small in
    record {
      allowance = fits_128 A (omega arith);
      rest = fits_128 (t -ℤ A) (omega arith);
      denominator = fits_128 d (omega arith);
      product = fits_128 ((t -ℤ A) *ℤ d) (omega arith);
      other = other;
    }
  where
    taken : (t A : ℤ) → unsigned_abs t ≤ 2 ^ 77 → unsigned_abs A ≤ 2 ^ 77 → unsigned_abs (t -ℤ A) ≤ 2 ^ 78
    taken t A h k = omega (arith, ints)

    sized : (d : ℤ) → pos 1 ≤ℤ d → d ≤ℤ pos (2 ^ 42) → unsigned_abs d ≤ 2 ^ 42
    sized d h k = omega (arith, ints)

-- What is needed is at most t exactly where n is at most what t exceeds the allowance by, times the parts.
pub needed_iff : (n d e m t : ℤ) → pos 1 ≤ℤ d → (e +ℤ (rounded_up n d +ℤ m)) ≤ℤ t ↔ n ≤ℤ ((t -ℤ (e +ℤ m)) *ℤ d)
needed_iff n (pos d) e m t positive =
    let some : 0 < d = omega (arith, ints) in
    let r = rounded_up n (pos d) in
    let rest = t -ℤ (e +ℤ m) in
    let ceiling = rounded_up_is_ceiling n (pos d) positive in (
      λ h. ≤ℤ_trans n (r *ℤ pos d) (rest *ℤ pos d) ceiling.at_least (*ℤ_mono r rest d (over e r m t h)),
      λ h. back e r m t (rounded_at_most true rest r n d some ceiling h),
    )
  where
    over : (e r m t : ℤ) → (e +ℤ (r +ℤ m)) ≤ℤ t → r ≤ℤ (t -ℤ (e +ℤ m))
    over e r m t h = omega (arith, ints)

    back : (e r m t : ℤ) → r ≤ℤ (t -ℤ (e +ℤ m)) → (e +ℤ (r +ℤ m)) ≤ℤ t
    back e r m t h = omega (arith, ints)
needed_iff n (negsuc d) e m t positive = absurd positive.le

-- ---- a number that is enough

-- n / d rounded down, and one more, is at least n / d rounded up
above_rounded : (n d : ℕ) → 0 < d → rounded_up (pos n) (pos d) ≤ℤ pos (n / d + 1)
above_rounded n d some = rounded_at_most true (pos (n / d + 1)) (rounded_up (pos n) (pos d)) (pos n) d some (rounded_up_is_ceiling (pos n) (pos d) (omega
    (arith, ints))) (reached n d (n / d) (omega (arith, div-add-mod' n d, mod-lt n some)))
  where
    reached : (n d q : ℕ) → n ≤ q * d + d → pos n ≤ℤ (pos (q + 1) *ℤ pos d)
    reached n d q h = omega (arith, ints)

-- an allowance, and what is rounded down, and one more
pub record IsEnough (A q e d n m : ℤ) : Type 0 where
  pub quotient : FitsSigned w128 q
  pub rounded : FitsSigned w128 (q +ℤ pos 1)
  pub allowance : FitsSigned w128 A
  pub sum : FitsSigned w128 (A +ℤ (q +ℤ pos 1))
  pub enough : (e +ℤ (rounded_up n d +ℤ m)) ≤ℤ (A +ℤ (q +ℤ pos 1))
  pub small : unsigned_abs q ≤ 2 ^ 97

pub enough_of : (A e m n d : ℤ) (q : ℕ) → unsigned_abs A ≤ 2 ^ 77 → A ≡ e +ℤ m → pos 0 ≤ℤ n → unsigned_abs n ≤ 2 ^ 97 → pos 1 ≤ℤ d
    → q ≡ unsigned_abs n / unsigned_abs d → IsEnough A (pos q) e d n m
enough_of A e m (pos n) (pos d) q small A_is low size positive q_is =
    let some : 0 < d = omega (arith, ints) in
    let less : q ≤ n = omega (arith, q_is, div-le_self n d) in
    let more : rounded_up (pos n) (pos d) ≤ℤ pos (q + 1) = subst (λ q. rounded_up (pos n) (pos d) ≤ℤ pos (q + 1)) (sym q_is) (above_rounded n d some) in
    record {
      quotient = fits_128 (pos q) (omega arith);
      rounded = fits_128 (pos (q + 1)) (omega arith);
      allowance = fits_128 A (omega arith);
      sum = fits_128 (A +ℤ pos (q + 1)) (added A q small (omega arith));
      enough = reached A e m (rounded_up (pos n) (pos d)) (pos (q + 1)) A_is more;
      small = omega arith;
    }
  where
    added : (A : ℤ) (q : ℕ) → unsigned_abs A ≤ 2 ^ 77 → q ≤ 2 ^ 97 → unsigned_abs (A +ℤ pos (q + 1)) ≤ 2 ^ 120
    added A q h k = omega (arith, ints)

    reached : (A e m r t : ℤ) → A ≡ e +ℤ m → r ≤ℤ t → (e +ℤ (r +ℤ m)) ≤ℤ (A +ℤ t)
    reached A e m r t h k = omega (arith, ints)
enough_of A e m (pos n) (negsuc d) q small A_is low size positive q_is = absurd positive.le
enough_of A e m (negsuc n) d q small A_is low size positive q_is = absurd low.le
