-- The sine of a sum by two products of numbers that are near the four factors.
use Rattle.std.proofs.Common.{◌≡◌, refl, sym, ap, ap₂, ◌∙◌, subst, ℕ, ◌+◌, ◌-◌, ◌*◌, ◌^◌, ◌≤◌, ℤ, pos, ◌+ℤ◌, ◌-ℤ◌, ◌*ℤ◌, ◌<ℤ◌, [], ◌∷◌, lit<, arith}
use Rattle.std.proofs.lemmas.Nat.{pow-add, pow_pos}
use Rattle.std.proofs.Math.Pow.{pow_mono}
use Rattle.std.proofs.lemmas.Int.{ints}
use Rattle.ring_solver.specs.Expression.{var, num, ◌⊞◌, ◌⊟◌, ◌⊠◌, opp}
use Rattle.ring_solver.specs.Ordered.{le, times, same}
use Rattle.ring_solver.proofs.Solver.{ring}
use Rattle.ring_solver.proofs.Certificate.{certified, moved}
use Rattle.rat_core.specs.Fraction.{ℚ, ◌÷◌, whole, ◌+ℚ◌, ◌-ℚ◌, ◌*ℚ◌, neg_ℚ, ◌≤ℚ◌, at_most, abs}
use Rattle.rat_core.proofs.Laws.{ℚ_ring, ℚ_ordered, over-mul, int-add, int-sub, int-mul, le_refl, le_trans, mul_nonneg}
use Rattle.rat_core.proofs.Order.{int_le, whole_le, whole_nonneg, cancel_le, abs_le, abs_of_nonneg, abs_add_le, le_abs, neg_le_abs, abs-neg}
use Rattle.rat_core.proofs.Sizes.{abs_add_three, abs_product_le}
use Rattle.directed_fixed.specs.Rounding.{IsFloor}
use Rattle.directed_fixed.specs.Ends.{Encloses}
use Rattle.sine_fixed.specs.Near.{IsNear, one}
use Rattle.sine_fixed.specs.SineTables.{IsClose}
use Rattle.sine_fixed.proofs.Bounded.{most}

one_nonneg : whole 0 ≤ℚ one
one_nonneg = whole_nonneg (2 ^ 60)

-- ---- one number

pub near_close : (x : ℕ) (v : ℚ) → IsNear 27 30 x v → IsClose (pos x) v
near_close x v near =
    abs_le (v *ℚ one -ℚ whole x) (whole 30)
    (certified ℚ_ordered ((v *ℚ one) ∷ whole x ∷ []) (var 0 ⊟ var 1) (num 30) (le (var 0) (var 1 ⊞ num 30) ∷ []) refl (near.high, tt))
    (certified ℚ_ordered ((v *ℚ one) ∷ whole x ∷ []) (opp (var 0 ⊟ var 1)) (num 30) (le (var 1) (var 0 ⊞ num 27) ∷ le (num 27) (num 30) ∷ []) refl
    (near.low, (whole_le 27 30 (omega arith), tt)))

pub negative_close : (x : ℤ) (v : ℚ) → IsClose x v → IsClose (pos 0 -ℤ x) (neg_ℚ v)
negative_close x v near =
    moved ℚ_ordered
    (sym (ap (λ t. abs (neg_ℚ v *ℚ one -ℚ t)) (int-sub (pos 0) x)
    ∙ ap abs (ring ℚ_ring (v ∷ one ∷ (x ÷ 1) ∷ []) (opp (var 0) ⊠ var 1 ⊟ (num 0 ⊟ var 2)) (opp (var 0 ⊠ var 1 ⊟ var 2)) refl)
    ∙ abs-neg (v *ℚ one -ℚ x ÷ 1))) refl near

-- ---- one product

-- a number of size at most 1 and a unit more, in units
most_in_units : most *ℚ one ≡ one +ℚ whole 1
most_in_units = over-mul (pos (2 ^ 60 + 1)) (2 ^ 60) (lit< tt) ∙ int-add (pos (2 ^ 60)) (pos 1)

in_units : (x : ℚ) → abs x ≤ℚ most → abs (x *ℚ one) ≤ℚ one +ℚ whole 1
in_units x h =
    moved ℚ_ordered refl most_in_units
    (abs_product_le x one most one h (moved ℚ_ordered (sym (abs_of_nonneg one one_nonneg)) refl (le_refl one)))

-- what is near to it is not much larger
number_size : (x : ℚ) (p : ℤ) → abs x ≤ℚ most → IsClose p x → abs (p ÷ 1) ≤ℚ one +ℚ whole 31
number_size x p small close =
    let z = x *ℚ one in
    let P = p ÷ 1 in
    le_trans (abs P) (abs z +ℚ abs (neg_ℚ (z -ℚ P))) (one +ℚ whole 31)
    (moved ℚ_ordered (ap abs (ring ℚ_ring (z ∷ P ∷ []) (var 0 ⊞ opp (var 0 ⊟ var 1)) (var 1) refl)) refl (abs_add_le z (neg_ℚ (z -ℚ P))))
    (certified ℚ_ordered (abs z ∷ abs (neg_ℚ (z -ℚ P)) ∷ one ∷ []) (var 0 ⊞ var 1) (var 2 ⊞ num 31)
    (le (var 0) (var 2 ⊞ num 1) ∷ le (var 1) (num 30) ∷ []) refl (in_units x small, (moved ℚ_ordered (sym (abs-neg (z -ℚ P))) refl close, tt)))

product_close : (x y : ℚ) (p q : ℤ) → abs x ≤ℚ most → abs y ≤ℚ most → IsClose p x → IsClose q y
    → abs (x *ℚ one *ℚ (y *ℚ one) -ℚ p ÷ 1 *ℚ q ÷ 1) ≤ℚ whole 60 *ℚ one +ℚ whole 960
product_close x y p q x_small y_small x_close y_close =
    let z = x *ℚ one in
    let w = y *ℚ one in
    let P = p ÷ 1 in
    let Q = q ÷ 1 in
    le_trans (abs (z *ℚ w -ℚ P *ℚ Q)) (abs ((z -ℚ P) *ℚ w) +ℚ abs (P *ℚ (w -ℚ Q))) (whole 60 *ℚ one +ℚ whole 960)
    (moved ℚ_ordered
    (ap abs (ring ℚ_ring (z ∷ w ∷ P ∷ Q ∷ []) ((var 0 ⊟ var 2) ⊠ var 1 ⊞ var 2 ⊠ (var 1 ⊟ var 3)) (var 0 ⊠ var 1 ⊟ var 2 ⊠ var 3) refl)) refl
    (abs_add_le ((z -ℚ P) *ℚ w) (P *ℚ (w -ℚ Q))))
    (certified ℚ_ordered (abs ((z -ℚ P) *ℚ w) ∷ abs (P *ℚ (w -ℚ Q)) ∷ one ∷ []) (var 0 ⊞ var 1) (num 60 ⊠ var 2 ⊞ num 960)
    (le (var 0) (num 30 ⊠ (var 2 ⊞ num 1)) ∷ le (var 1) ((var 2 ⊞ num 31) ⊠ num 30) ∷ []) refl (
      abs_product_le (z -ℚ P) w (whole 30) (one +ℚ whole 1) x_close (in_units y y_small),
      (abs_product_le P (w -ℚ Q) (one +ℚ whole 31) (whole 30) (number_size x p x_small x_close) y_close, tt),
    ))

-- ---- two products

-- the law of addition holds within this, and the small parts come to less than one unit
law_room : (pos 1 ÷ 2 ^ 66) *ℚ (one *ℚ one) +ℚ whole 1920 ≤ℚ one
unfolding at_most ◌+ℚ◌ ◌*ℚ◌ ◌÷◌
law_room = record { le = tt }

pub two_products_close : (x y z w v : ℚ) (p q r t : ℤ) → abs x ≤ℚ most → abs y ≤ℚ most → abs z ≤ℚ most → abs w ≤ℚ most
    → IsClose p x → IsClose q y → IsClose r z → IsClose t w → abs (v -ℚ (x *ℚ y +ℚ z *ℚ w)) ≤ℚ pos 1 ÷ 2 ^ 66
    → abs (v *ℚ one *ℚ one -ℚ (p *ℤ q +ℤ r *ℤ t) ÷ 1) ≤ℚ whole 121 *ℚ one
two_products_close x y z w v p q r t x_small y_small z_small w_small x_close y_close z_close w_close law =
    let first = x *ℚ one *ℚ (y *ℚ one) -ℚ p ÷ 1 *ℚ q ÷ 1 in
    let second = z *ℚ one *ℚ (w *ℚ one) -ℚ r ÷ 1 *ℚ t ÷ 1 in
    let d = v -ℚ (x *ℚ y +ℚ z *ℚ w) in
    let square = one *ℚ one in
    let square_nonneg : whole 0 ≤ℚ square = mul_nonneg one one one_nonneg one_nonneg in
    let number : (p *ℤ q +ℤ r *ℤ t) ÷ 1 ≡ p ÷ 1 *ℚ q ÷ 1 +ℚ r ÷ 1 *ℚ t ÷ 1 =
    int-add (p *ℤ q) (r *ℤ t) ∙ ap₂ ◌+ℚ◌ (int-mul p q) (int-mul r t)
    in
    le_trans _ (abs first +ℚ abs second +ℚ abs (d *ℚ square)) _
    (moved ℚ_ordered
    (ap abs (ring ℚ_ring (x ∷ y ∷ z ∷ w ∷ v ∷ one ∷ (p ÷ 1) ∷ (q ÷ 1) ∷ (r ÷ 1) ∷ (t ÷ 1) ∷ [])
    (var 0 ⊠ var 5 ⊠ (var 1 ⊠ var 5) ⊟ var 6 ⊠ var 7 ⊞ (var 2 ⊠ var 5 ⊠ (var 3 ⊠ var 5) ⊟ var 8 ⊠ var 9)
    ⊞ (var 4 ⊟ (var 0 ⊠ var 1 ⊞ var 2 ⊠ var 3)) ⊠ (var 5 ⊠ var 5))
    (var 4 ⊠ var 5 ⊠ var 5 ⊟ (var 6 ⊠ var 7 ⊞ var 8 ⊠ var 9)) refl)
    ∙ ap (λ n. abs (v *ℚ one *ℚ one -ℚ n)) (sym number)) refl
    (abs_add_three first second (d *ℚ square)))
    (certified ℚ_ordered (abs first ∷ abs second ∷ abs (d *ℚ square) ∷ one ∷ (pos 1 ÷ 2 ^ 66) ∷ []) (var 0 ⊞ var 1 ⊞ var 2) (num 121 ⊠ var 3)
    (le (var 0) (num 60 ⊠ var 3 ⊞ num 960) ∷ le (var 1) (num 60 ⊠ var 3 ⊞ num 960) ∷ le (var 2) (var 4 ⊠ (var 3 ⊠ var 3))
    ∷ le (var 4 ⊠ (var 3 ⊠ var 3) ⊞ num 1920) (var 3) ∷ []) refl (
      product_close x y p q x_small y_small x_close y_close,
      (
        product_close z w r t z_small w_small z_close w_close,
        (
          abs_product_le d square (pos 1 ÷ 2 ^ 66) square law (moved ℚ_ordered (sym (abs_of_nonneg square square_nonneg)) refl (le_refl square)),
          (law_room, tt),
        ),
      ),
    ))

-- ---- the shift to a scale

-- A number of units of 2^-120 less its error, shifted to units of 2^-bits.
pub shifted_low : (bits : ℕ) (v : ℚ) (number low : ℤ) → bits ≤ 60 → abs (v *ℚ one *ℚ one -ℚ number ÷ 1) ≤ℚ whole 121 *ℚ one
    → IsFloor low (number -ℤ pos (121 * 2 ^ 60)) (pos (2 ^ (120 - bits)))
    → Encloses bits (record { lo = low; hi = low +ℤ pos 256 }) v
shifted_low bits v number low room close floor =
    let step = 2 ^ (120 - bits) in
    let unit = whole (2 ^ bits) in
    let D = whole step in
    let N = number ÷ 1 in
    let L = low ÷ 1 in
    let V = v *ℚ one *ℚ one in
    let all : bits + (120 - bits) ≡ 120 = omega (arith, room) in
    let square : 2 ^ bits * step ≡ 2 ^ 120 = sym (pow-add 2 bits (120 - bits)) ∙ ap (λ k. 2 ^ k) all in
    let unit_is : unit *ℚ D ≡ one *ℚ one = sym (int-mul (pos (2 ^ bits)) (pos step)) ∙ ap whole square ∙ int-mul (pos (2 ^ 60)) (pos (2 ^ 60)) in
    let many : 60 ≤ 120 - bits = omega (arith, room) in
    let least : 2 ^ 60 ≤ step = pow_mono many in
    let moved_is : (number -ℤ pos (121 * 2 ^ 60)) ÷ 1 ≡ N -ℚ whole 121 *ℚ one =
    int-sub number (pos (121 * 2 ^ 60)) ∙ ap (λ t. N -ℚ t) (int-mul (pos 121) (pos (2 ^ 60)))
    in
    let at_most : L *ℚ D ≤ℚ N -ℚ whole 121 *ℚ one =
    moved ℚ_ordered (int-mul low (pos step)) moved_is (int_le (low *ℤ pos step) (number -ℤ pos (121 * 2 ^ 60)) floor.at_most)
    in
    let near : N -ℚ whole 121 *ℚ one ≤ℚ L *ℚ D +ℚ D =
    moved ℚ_ordered moved_is (int-add (low *ℤ pos step) (pos step) ∙ ap (λ t. t +ℚ D) (int-mul low (pos step)))
    (int_below (number -ℤ pos (121 * 2 ^ 60)) (low *ℤ pos step +ℤ pos step) floor.near)
    in
    let below = le_abs (V -ℚ N) in
    let above = neg_le_abs (V -ℚ N) in
    record {
      low = cancel_le step (pow_pos (120 - bits)) L (v *ℚ unit)
          (certified ℚ_ordered (L ∷ D ∷ N ∷ one ∷ v ∷ unit ∷ abs (V -ℚ N) ∷ []) (var 0 ⊠ var 1) (var 4 ⊠ var 5 ⊠ var 1)
          (le (var 0 ⊠ var 1) (var 2 ⊟ num 121 ⊠ var 3) ∷ le (opp (var 4 ⊠ var 3 ⊠ var 3 ⊟ var 2)) (var 6) ∷ le (var 6) (num 121 ⊠ var 3)
          ∷ same (var 4) (var 3 ⊠ var 3) (var 5 ⊠ var 1) ∷ []) refl
          (at_most, (above, (close, (sym unit_is, tt)))));
      high = subst (λ t. v *ℚ unit ≤ℚ t) (sym (int-add low (pos 256)))
          (cancel_le step (pow_pos (120 - bits)) (v *ℚ unit) (L +ℚ whole 256)
          (certified ℚ_ordered (L ∷ D ∷ N ∷ one ∷ v ∷ unit ∷ abs (V -ℚ N) ∷ []) (var 4 ⊠ var 5 ⊠ var 1) ((var 0 ⊞ num 256) ⊠ var 1)
          (same (var 4) (var 5 ⊠ var 1) (var 3 ⊠ var 3) ∷ le (var 4 ⊠ var 3 ⊠ var 3 ⊟ var 2) (var 6) ∷ le (var 6) (num 121 ⊠ var 3)
          ∷ le (var 2 ⊟ num 121 ⊠ var 3) (var 0 ⊠ var 1 ⊞ var 1) ∷ times (num 242) (var 3) (var 1) ∷ times (num 13) (num 0) (var 1) ∷ []) refl (
            unit_is,
            (
              below,
              (close, (near, (whole_nonneg 242, whole_le (2 ^ 60) step least, (whole_nonneg 13, whole_nonneg step, tt)))),
            ),
          )));
    }
  where
    int_below : (a b : ℤ) → a <ℤ b → a ÷ 1 ≤ℚ b ÷ 1
    int_below a b h = int_le a b (omega (arith, ints))
