-- How rounding changes what a number is near: errors in units of 2^-60.
use Rattle.std.proofs.Common.{◌≡◌, refl, sym, subst, ap, ◌∙◌, ℕ, ◌+◌, ◌*◌, ◌/◌, ◌^◌, ◌<◌, ◌≤◌, pos, ◌+ℤ◌, ◌-ℤ◌, [], ◌∷◌, arith, lit<}
use Rattle.std.proofs.Math.Nat.{div-mul-le_self}
use Rattle.ring_solver.specs.Expression.{var, num, ◌⊞◌, ◌⊟◌, ◌⊠◌, opp}
use Rattle.ring_solver.specs.Ordered.{le, times, same}
use Rattle.ring_solver.proofs.Certificate.{certified}
use Rattle.rat_core.specs.Fraction.{ℚ, ◌÷◌, whole, ◌+ℚ◌, ◌-ℚ◌, ◌*ℚ◌, ◌≤ℚ◌, abs}
use Rattle.rat_core.proofs.Laws.{ℚ_ordered, over-mul, mul_nonneg, int-add, int-sub, int-mul}
use Rattle.rat_core.proofs.Order.{whole_le, whole_nonneg, cancel_le, le_abs, neg_le_abs}
use Rattle.directed_fixed.specs.Ends.{Encloses}
use Rattle.sine_fixed.specs.Near.{IsNear, one}

one_positive : 0 < 2 ^ 60
one_positive = lit< tt

one_nonneg : whole 0 ≤ℚ one
one_nonneg = whole_nonneg (2 ^ 60)

-- ---- quotients of whole numbers, rounded down

quotient_low : (n d : ℕ) → whole (n / d) *ℚ whole d ≤ℚ whole n
quotient_low n d = subst (λ t. t ≤ℚ whole n) (int-mul (pos (n / d)) (pos d)) (whole_le (n / d * d) n (div-mul-le_self n d))

quotient_high : (n d : ℕ) → 0 < d → whole n ≤ℚ whole (n / d) *ℚ whole d +ℚ whole d
quotient_high n d positive =
    subst (λ t. whole n ≤ℚ t) (int-add (pos (n / d * d)) (pos d) ∙ ap (λ t. t +ℚ whole d) (int-mul (pos (n / d)) (pos d)))
    (whole_le n (n / d * d + d) (omega arith))

product_low : (y p d : ℕ) → whole (y * p / d) *ℚ whole d ≤ℚ whole y *ℚ whole p
product_low y p d = subst (λ t. whole (y * p / d) *ℚ whole d ≤ℚ t) (int-mul (pos y) (pos p)) (quotient_low (y * p) d)

product_high : (y p d : ℕ) → 0 < d → whole y *ℚ whole p ≤ℚ whole (y * p / d) *ℚ whole d +ℚ whole d
product_high y p d positive =
    subst (λ t. t ≤ℚ whole (y * p / d) *ℚ whole d +ℚ whole d) (int-mul (pos y) (pos p)) (quotient_high (y * p) d positive)

-- ---- the angle, and a quarter of its square

-- Pi times n/d, where P and P + 1 are the units of pi rounded down and up.
pub angle_near : (P n d : ℕ) (pi : ℚ) → 0 < d → n ≤ d → whole P ≤ℚ pi *ℚ one → pi *ℚ one ≤ℚ whole (P + 1)
    → IsNear 0 2 (P * n / d) (pi *ℚ (pos n ÷ d))
angle_near P n d pi positive below low high =
    let q = P * n / d in
    let ρ = one ∷ pi ∷ (pos n ÷ d) ∷ whole n ∷ whole d ∷ whole P ∷ whole q ∷ [] in
    let next : whole (P + 1) ≡ whole P +ℚ whole 1 = int-add (pos P) (pos 1) in
    record {
      low = cancel_le d positive (whole q) (pi *ℚ (pos n ÷ d) *ℚ one +ℚ whole 0)
          (certified ℚ_ordered ρ (var 6 ⊠ var 4) ((var 1 ⊠ var 2 ⊠ var 0 ⊞ num 0) ⊠ var 4)
          (le (var 6 ⊠ var 4) (var 5 ⊠ var 3) ∷ times (var 3) (var 5) (var 1 ⊠ var 0)
          ∷ same (var 1 ⊠ var 0) (var 3) (var 2 ⊠ var 4) ∷ []) refl
          (product_low P n d, (whole_nonneg n, low, (sym (over-mul (pos n) d positive), tt))));
      high = cancel_le d positive (pi *ℚ (pos n ÷ d) *ℚ one) (whole q +ℚ whole 2)
          (certified ℚ_ordered ρ (var 1 ⊠ var 2 ⊠ var 0 ⊠ var 4) ((var 6 ⊞ num 2) ⊠ var 4)
          (same (var 1 ⊠ var 0) (var 2 ⊠ var 4) (var 3) ∷ times (var 3) (var 1 ⊠ var 0) (var 5 ⊞ num 1)
          ∷ le (var 5 ⊠ var 3) (var 6 ⊠ var 4 ⊞ var 4) ∷ le (var 3) (var 4) ∷ []) refl (
            over-mul (pos n) d positive,
            (
              whole_nonneg n,
              subst (λ t. pi *ℚ one ≤ℚ t) next high,
              (product_high P n d positive, (whole_le n d below, tt)),
            ),
          ));
    }

-- A quarter of the square of z, where a stands for z.
pub quarter_square_near : (a : ℕ) (z w : ℚ) → whole 4 *ℚ w ≡ z *ℚ z → whole 0 ≤ℚ z → z ≤ℚ whole 2 → a ≤ 2 ^ 61 → IsNear 0 2 a z
    → IsNear 0 3 (a * a / 2 ^ 62) w
quarter_square_near a z w quarter nonneg small most near =
    let y = a * a / 2 ^ 62 in
    let four = whole (2 ^ 62) in
    let ρ = one ∷ z ∷ w ∷ whole a ∷ whole y ∷ four ∷ [] in
    let four_is : whole 4 *ℚ one ≡ four = sym (int-mul (pos 4) (pos (2 ^ 60))) in
    let z_nonneg : whole 0 ≤ℚ z *ℚ one = mul_nonneg z one nonneg one_nonneg in
    let at_most_two : whole a ≤ℚ whole 2 *ℚ one = subst (λ t. whole a ≤ℚ t) (int-mul (pos 2) (pos (2 ^ 60))) (whole_le a (2 ^ 61) most) in
    record {
      low = cancel_le (2 ^ 62) (lit< tt) (whole y) (w *ℚ one +ℚ whole 0)
          (certified ℚ_ordered ρ (var 4 ⊠ var 5) ((var 2 ⊠ var 0 ⊞ num 0) ⊠ var 5)
          (le (var 4 ⊠ var 5) (var 3 ⊠ var 3) ∷ times (var 3) (var 3) (var 1 ⊠ var 0 ⊞ num 0) ∷ times (var 1 ⊠ var 0) (var 3) (var 1 ⊠ var 0 ⊞ num 0)
          ∷ same (var 0 ⊠ var 0) (var 1 ⊠ var 1) (num 4 ⊠ var 2) ∷ same (var 2 ⊠ var 0) (num 4 ⊠ var 0) (var 5) ∷ []) refl
          (product_low a a (2 ^ 62), (whole_nonneg a, near.low, (z_nonneg, near.low, (sym quarter, (four_is, tt))))));
      high = cancel_le (2 ^ 62) (lit< tt) (w *ℚ one) (whole y +ℚ whole 3)
          (certified ℚ_ordered ρ (var 2 ⊠ var 0 ⊠ var 5) ((var 4 ⊞ num 3) ⊠ var 5)
          (same (var 2 ⊠ var 0) (var 5) (num 4 ⊠ var 0) ∷ same (var 0 ⊠ var 0) (num 4 ⊠ var 2) (var 1 ⊠ var 1)
          ∷ times (var 1 ⊠ var 0) (var 1 ⊠ var 0) (var 3 ⊞ num 2) ∷ times (var 3) (var 1 ⊠ var 0) (var 3 ⊞ num 2)
          ∷ le (var 3 ⊠ var 3) (var 4 ⊠ var 5 ⊞ var 5) ∷ times (num 2) (var 3) (num 2 ⊠ var 0) ∷ times (num 2 ⊠ var 0) (var 1) (num 2)
          ∷ same (num 2) (num 4 ⊠ var 0) (var 5) ∷ []) refl (
            sym four_is,
            (
              quarter,
              (
                z_nonneg,
                near.high,
                (
                  whole_nonneg a,
                  near.high,
                  (
                    product_high a a (2 ^ 62) (lit< tt),
                    (whole_nonneg 2, at_most_two, (mul_nonneg (whole 2) one (whole_nonneg 2) one_nonneg, small, (four_is, tt))),
                  ),
                ),
              ),
            ),
          ));
    }

-- ---- a step of the scheme, and the last product

-- A number that is known within 16 units above is so within 16 both ways, and one within fewer.
pub widened : (below above x : ℕ) (v : ℚ) → below ≤ 16 → above ≤ 16 → IsNear below above x v → IsNear 16 16 x v
widened below above x v few few' near =
    let ρ = one ∷ v ∷ whole x ∷ whole below ∷ whole above ∷ [] in
    record {
      low = certified ℚ_ordered ρ (var 2) (var 1 ⊠ var 0 ⊞ num 16) (le (var 2) (var 1 ⊠ var 0 ⊞ var 3) ∷ le (var 3) (num 16) ∷ []) refl
          (near.low, (whole_le below 16 few, tt));
      high = certified ℚ_ordered ρ (var 1 ⊠ var 0) (var 2 ⊞ num 16) (le (var 1 ⊠ var 0) (var 2 ⊞ var 4) ∷ le (var 4) (num 16) ∷ []) refl
          (near.high, (whole_le above 16 few', tt));
    }

pub above_widened : (above x : ℕ) (v : ℚ) → above ≤ 16 → IsNear 0 above x v → IsNear 0 16 x v
above_widened above x v few near = record { low = near.low; high = (widened 0 above x v (omega arith) few near).high }

-- The square of a number from 0 to 5/6.
pub square_near : (y : ℕ) (w : ℚ) → whole 0 ≤ℚ w → whole 6 *ℚ w ≤ℚ whole 5 → IsNear 0 3 y w → IsNear 0 6 (y * y / 2 ^ 60) (w *ℚ w)
square_near y w nonneg small near =
    let r = y * y / 2 ^ 60 in
    let ρ = one ∷ w ∷ whole y ∷ whole r ∷ [] in
    let w_nonneg : whole 0 ≤ℚ w *ℚ one = mul_nonneg w one nonneg one_nonneg in
    record {
      low = cancel_le (2 ^ 60) one_positive (whole r) (w *ℚ w *ℚ one +ℚ whole 0)
          (certified ℚ_ordered ρ (var 3 ⊠ var 0) ((var 1 ⊠ var 1 ⊠ var 0 ⊞ num 0) ⊠ var 0)
          (le (var 3 ⊠ var 0) (var 2 ⊠ var 2) ∷ times (var 2) (var 2) (var 1 ⊠ var 0 ⊞ num 0) ∷ times (var 1 ⊠ var 0) (var 2) (var 1 ⊠ var 0 ⊞ num 0) ∷ [])
          refl (product_low y y (2 ^ 60), (whole_nonneg y, near.low, (w_nonneg, near.low, tt))));
      high = cancel_le (2 ^ 60) one_positive (w *ℚ w *ℚ one) (whole r +ℚ whole 6)
          (certified ℚ_ordered ρ (var 1 ⊠ var 1 ⊠ var 0 ⊠ var 0) ((var 3 ⊞ num 6) ⊠ var 0)
          (times (var 1 ⊠ var 0) (var 1 ⊠ var 0) (var 2 ⊞ num 3) ∷ times (var 2) (var 1 ⊠ var 0) (var 2 ⊞ num 3)
          ∷ le (var 2 ⊠ var 2) (var 3 ⊠ var 0 ⊞ var 0) ∷ times (num 3) (var 2) (var 1 ⊠ var 0 ⊞ num 0) ∷ times (var 0) (num 6 ⊠ var 1) (num 5) ∷ []) refl
          (w_nonneg, near.high, (whole_nonneg y, near.high, (product_high y y (2 ^ 60) one_positive, (whole_nonneg 3, near.low, (one_nonneg, small, tt))))));
    }

-- A product with a number that is known to 16 units: the error is the factor's share of these, and its own, and the rounding.
pub product_near : (y p share own : ℕ) (w v : ℚ) → whole 0 ≤ℚ w → whole 16 *ℚ w ≤ℚ whole share → IsNear 0 own y w → IsNear 16 16 p v → p ≤ 2 ^ 60
    → IsNear share (share + (own + 1)) (y * p / 2 ^ 60) (w *ℚ v)
product_near y p share own w v nonneg small near near' most =
    let r = y * p / 2 ^ 60 in
    let ρ = one ∷ w ∷ v ∷ whole y ∷ whole p ∷ whole r ∷ whole share ∷ whole own ∷ [] in
    let w_nonneg : whole 0 ≤ℚ w *ℚ one = mul_nonneg w one nonneg one_nonneg in
    let error : whole (share + (own + 1)) ≡ whole share +ℚ (whole own +ℚ whole 1) =
    int-add (pos share) (pos (own + 1)) ∙ ap (λ t. whole share +ℚ t) (int-add (pos own) (pos 1))
    in
    record {
      low = cancel_le (2 ^ 60) one_positive (whole r) (w *ℚ v *ℚ one +ℚ whole share)
          (certified ℚ_ordered ρ (var 5 ⊠ var 0) ((var 1 ⊠ var 2 ⊠ var 0 ⊞ var 6) ⊠ var 0)
          (le (var 5 ⊠ var 0) (var 3 ⊠ var 4) ∷ times (var 4) (var 3) (var 1 ⊠ var 0 ⊞ num 0)
          ∷ times (var 1 ⊠ var 0) (var 4) (var 2 ⊠ var 0 ⊞ num 16) ∷ times (var 0) (num 16 ⊠ var 1) (var 6) ∷ []) refl
          (product_low y p (2 ^ 60), (whole_nonneg p, near.low, (w_nonneg, near'.low, (one_nonneg, small, tt)))));
      high = subst (λ t. w *ℚ v *ℚ one ≤ℚ whole r +ℚ t) (sym error)
          (cancel_le (2 ^ 60) one_positive (w *ℚ v *ℚ one) (whole r +ℚ (whole share +ℚ (whole own +ℚ whole 1)))
          (certified ℚ_ordered ρ (var 1 ⊠ var 2 ⊠ var 0 ⊠ var 0) ((var 5 ⊞ (var 6 ⊞ (var 7 ⊞ num 1))) ⊠ var 0)
          (times (var 1 ⊠ var 0) (var 2 ⊠ var 0) (var 4 ⊞ num 16) ∷ times (var 4) (var 1 ⊠ var 0) (var 3 ⊞ var 7)
          ∷ times (var 0) (num 16 ⊠ var 1) (var 6) ∷ le (var 3 ⊠ var 4) (var 5 ⊠ var 0 ⊞ var 0) ∷ times (var 7) (var 4) (var 0) ∷ []) refl (
            w_nonneg,
            near'.high,
            (
              whole_nonneg p,
              near.high,
              (
                one_nonneg,
                small,
                (
                  product_high y p (2 ^ 60) one_positive,
                  (whole_nonneg own, whole_le p (2 ^ 60) most, tt),
                ),
              ),
            ),
          )));
    }

-- The same with a number that is not too large: the product is not too large either.
pub product_below : (y p share own : ℕ) (w v : ℚ) → whole 0 ≤ℚ w → whole 16 *ℚ w ≤ℚ whole share → IsNear 0 own y w → IsNear 0 16 p v → p ≤ 2 ^ 60
    → IsNear 0 (share + (own + 1)) (y * p / 2 ^ 60) (w *ℚ v)
product_below y p share own w v nonneg small near near' most =
    let r = y * p / 2 ^ 60 in
    let ρ = one ∷ w ∷ v ∷ whole y ∷ whole p ∷ whole r ∷ [] in
    let w_nonneg : whole 0 ≤ℚ w *ℚ one = mul_nonneg w one nonneg one_nonneg in
    record {
      low = cancel_le (2 ^ 60) one_positive (whole r) (w *ℚ v *ℚ one +ℚ whole 0)
          (certified ℚ_ordered ρ (var 5 ⊠ var 0) ((var 1 ⊠ var 2 ⊠ var 0 ⊞ num 0) ⊠ var 0)
          (le (var 5 ⊠ var 0) (var 3 ⊠ var 4) ∷ times (var 4) (var 3) (var 1 ⊠ var 0 ⊞ num 0) ∷ times (var 1 ⊠ var 0) (var 4) (var 2 ⊠ var 0 ⊞ num 0) ∷ [])
          refl (product_low y p (2 ^ 60), (whole_nonneg p, near.low, (w_nonneg, near'.low, tt))));
      high = (product_near y p share own w v nonneg small near (widened 0 16 p v (omega arith) (omega arith) near') most).high;
    }

-- A step of a chain: a coefficient c and what is left of the rest.
pub sum_near : (a r : ℕ) (c x : ℚ) → IsNear 0 1 a c → IsNear 0 14 r x → IsNear 0 16 (a + r) (c +ℚ x)
sum_near a r c x near near' =
    let ρ = one ∷ c ∷ x ∷ whole a ∷ whole r ∷ [] in
    let sum : whole (a + r) ≡ whole a +ℚ whole r = int-add (pos a) (pos r) in
    record {
      low = subst (λ t. t ≤ℚ (c +ℚ x) *ℚ one +ℚ whole 0) (sym sum)
          (certified ℚ_ordered ρ (var 3 ⊞ var 4) ((var 1 ⊞ var 2) ⊠ var 0 ⊞ num 0)
          (le (var 3) (var 1 ⊠ var 0 ⊞ num 0) ∷ le (var 4) (var 2 ⊠ var 0 ⊞ num 0) ∷ []) refl (near.low, (near'.low, tt)));
      high = subst (λ t. (c +ℚ x) *ℚ one ≤ℚ t +ℚ whole 16) (sym sum)
          (certified ℚ_ordered ρ ((var 1 ⊞ var 2) ⊠ var 0) (var 3 ⊞ var 4 ⊞ num 16)
          (le (var 1 ⊠ var 0) (var 3 ⊞ num 1) ∷ le (var 2 ⊠ var 0) (var 4 ⊞ num 14) ∷ le (num 15) (num 16) ∷ []) refl
          (near.high, (near'.high, (whole_le 15 16 (omega arith), tt))));
    }

-- The one chain less the other, of which s + r stands for x and r for y.
pub difference_near : (s r : ℕ) (x y : ℚ) → IsNear 0 16 (s + r) x → IsNear 0 16 r y → IsNear 16 16 s (x -ℚ y)
difference_near s r x y near near' =
    let ρ = one ∷ x ∷ y ∷ whole s ∷ whole r ∷ [] in
    let sum : whole (s + r) ≡ whole s +ℚ whole r = int-add (pos s) (pos r) in
    record {
      low = certified ℚ_ordered ρ (var 3) ((var 1 ⊟ var 2) ⊠ var 0 ⊞ num 16)
          (le (var 3 ⊞ var 4) (var 1 ⊠ var 0 ⊞ num 0) ∷ le (var 2 ⊠ var 0) (var 4 ⊞ num 16) ∷ []) refl
          (subst (λ t. t ≤ℚ x *ℚ one +ℚ whole 0) sum near.low, (near'.high, tt));
      high = certified ℚ_ordered ρ ((var 1 ⊟ var 2) ⊠ var 0) (var 3 ⊞ num 16)
          (le (var 1 ⊠ var 0) (var 3 ⊞ var 4 ⊞ num 16) ∷ le (var 4) (var 2 ⊠ var 0 ⊞ num 0) ∷ []) refl
          (subst (λ t. x *ℚ one ≤ℚ t +ℚ whole 16) sum near.high, (near'.low, tt));
    }

-- ---- what is cut off, and the shift to a scale

-- A tail of at most one unit.
pub tail_near : (s : ℕ) (u v : ℚ) → abs (v -ℚ u) *ℚ one ≤ℚ whole 1 → IsNear 26 29 s u → IsNear 27 30 s v
tail_near s u v small near =
    let ρ = one ∷ u ∷ v ∷ abs (v -ℚ u) ∷ whole s ∷ [] in
    record {
      low = certified ℚ_ordered ρ (var 4) (var 2 ⊠ var 0 ⊞ num 27)
          (le (var 4) (var 1 ⊠ var 0 ⊞ num 26) ∷ times (var 0) (opp (var 2 ⊟ var 1)) (var 3) ∷ le (var 3 ⊠ var 0) (num 1) ∷ []) refl
          (near.low, (one_nonneg, neg_le_abs (v -ℚ u), (small, tt)));
      high = certified ℚ_ordered ρ (var 2 ⊠ var 0) (var 4 ⊞ num 30)
          (le (var 1 ⊠ var 0) (var 4 ⊞ num 29) ∷ times (var 0) (var 2 ⊟ var 1) (var 3) ∷ le (var 3 ⊠ var 0) (num 1) ∷ []) refl
          (near.high, (one_nonneg, le_abs (v -ℚ u), (small, tt)));
    }

-- A number of units of 2^-60, shifted by k bits, is one of units of 2^-bits.
pub shifted_encloses : (bits k x : ℕ) (v : ℚ) → 2 ^ bits * 2 ^ k ≡ 2 ^ 60 → 0 < 2 ^ k → IsNear 27 30 x v
    → Encloses bits (record { lo = pos (x / 2 ^ k) -ℤ pos 27; hi = pos (x / 2 ^ k) +ℤ pos 31 }) v
shifted_encloses bits k x v room positive near =
    let b = x / 2 ^ k in
    let step = 2 ^ k in
    let ρ = one ∷ v ∷ whole (2 ^ bits) ∷ whole step ∷ whole x ∷ whole b ∷ [] in
    let one_is : whole (2 ^ bits) *ℚ whole step ≡ one = sym (int-mul (pos (2 ^ bits)) (pos step)) ∙ ap whole room in
    let lower : (pos b -ℤ pos 27) ÷ 1 ≡ whole b -ℚ whole 27 = int-sub (pos b) (pos 27) in
    let upper : (pos b +ℤ pos 31) ÷ 1 ≡ whole b +ℚ whole 31 = int-add (pos b) (pos 31) in
    let at_least_one : whole 1 ≤ℚ whole step = whole_le 1 step (omega arith) in
    record {
      low = subst (λ t. t ≤ℚ v *ℚ whole (2 ^ bits)) (sym lower)
          (cancel_le step positive (whole b -ℚ whole 27) (v *ℚ whole (2 ^ bits))
          (certified ℚ_ordered ρ ((var 5 ⊟ num 27) ⊠ var 3) (var 1 ⊠ var 2 ⊠ var 3)
          (le (var 5 ⊠ var 3) (var 4) ∷ le (var 4) (var 1 ⊠ var 0 ⊞ num 27) ∷ times (num 27) (num 1) (var 3)
          ∷ same (var 1) (var 0) (var 2 ⊠ var 3) ∷ []) refl
          (quotient_low x step, (near.low, (whole_nonneg 27, at_least_one, (sym one_is, tt))))));
      high = subst (λ t. v *ℚ whole (2 ^ bits) ≤ℚ t) (sym upper)
          (cancel_le step positive (v *ℚ whole (2 ^ bits)) (whole b +ℚ whole 31)
          (certified ℚ_ordered ρ (var 1 ⊠ var 2 ⊠ var 3) ((var 5 ⊞ num 31) ⊠ var 3)
          (same (var 1) (var 2 ⊠ var 3) (var 0) ∷ le (var 1 ⊠ var 0) (var 4 ⊞ num 30) ∷ le (var 4) (var 5 ⊠ var 3 ⊞ var 3)
          ∷ times (num 30) (num 1) (var 3) ∷ []) refl
          (one_is, (near.high, (quotient_high x step positive, (whole_nonneg 30, at_least_one, tt))))));
    }
