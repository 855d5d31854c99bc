-- What the sag and the margin in units say of a function's value at a corner of a box.
use Rattle.std.proofs.Common.{◌≡◌, refl, sym, ap, ◌∙◌, subst, subst₂, ℕ, ◌+◌, ◌*◌, ◌^◌, ◌≤◌, ℤ, pos, ◌+ℤ◌, ◌*ℤ◌, ◌≤ℤ◌, ◌<ℤ◌, [], ◌∷◌, arith}
use Rattle.std.proofs.Math.Pow.{pow_mono}
use Rattle.std.proofs.lemmas.Int.{ints}
use Rattle.std.proofs.lemmas.Nat.{pow_pos}
use Rattle.ring_solver.specs.Expression.{var, num, ◌⊞◌, ◌⊠◌}
use Rattle.ring_solver.specs.Ordered.{le, times, same}
use Rattle.ring_solver.proofs.Certificate.{le₃, certified}
use Rattle.rat_core.specs.Fraction.{ℚ, ◌÷◌, whole, ◌+ℚ◌, ◌*ℚ◌, ◌≤ℚ◌}
use Rattle.rat_core.proofs.Laws.{ℚ_ordered, int-add, int-mul, le_trans, over-mul, mul_nonneg}
use Rattle.rat_core.proofs.Order.{int_le, whole_nonneg, whole_le, over_nonneg, cancel_le}
use Rattle.directed_fixed.specs.Rounding.{IsCeiling}

-- The sag in units, where pi is at most H units: pi² rounded up, and 2·pi²·B / 4^(level + 1), rounded up.
pub record IsSag (bits : ℕ) (H : ℤ) (level B : ℕ) (sag : ℤ) : Type 0 where
  pub square : ℤ
  pub is_square : IsCeiling square (H *ℤ H) (pos (2 ^ bits))
  pub is_sag : IsCeiling sag (pos 2 *ℤ square *ℤ pos B) (pos (2 ^ (2 * level + 2)))

-- pi is between L and H, for the n-th approximation
pub record IsPiAt (bits : ℕ) (L H : ℤ) (p : ℚ) : Type 0 where
  pub low : L ÷ 1 ≤ℚ p *ℚ whole (2 ^ bits)
  pub high : p *ℚ whole (2 ^ bits) ≤ℚ H ÷ 1
  pub one_unit : H ≡ L +ℤ pos 1
  pub nonneg : whole 0 ≤ℚ p
  pub small : whole 5 *ℚ p ≤ℚ whole 16

-- pi² rounded up is at least pi² ..
square_above : (bits : ℕ) (L H q : ℤ) (p : ℚ) → IsPiAt bits L H p → IsCeiling q (H *ℤ H) (pos (2 ^ bits)) → (p *ℚ p) *ℚ whole (2 ^ bits) ≤ℚ q ÷ 1
square_above bits L H q p pi ceiling =
    let u = whole (2 ^ bits) in
    let up : (H ÷ 1) *ℚ (H ÷ 1) ≤ℚ (q ÷ 1) *ℚ u = subst₂ ◌≤ℚ◌ (int-mul H H) (int-mul q (pos (2 ^ bits)))
    (int_le (H *ℤ H) (q *ℤ pos (2 ^ bits)) ceiling.at_least) in
    let pu : whole 0 ≤ℚ p *ℚ u = mul_nonneg p u pi.nonneg (whole_nonneg (2 ^ bits)) in
    let h : whole 0 ≤ℚ H ÷ 1 = le_trans (whole 0) (p *ℚ u) (H ÷ 1) pu pi.high in
    cancel_le (2 ^ bits) (pow_pos bits) ((p *ℚ p) *ℚ u) (q ÷ 1)
    (certified ℚ_ordered (p ∷ u ∷ (H ÷ 1) ∷ (q ÷ 1) ∷ []) ((var 0 ⊠ var 0) ⊠ var 1 ⊠ var 1) (var 3 ⊠ var 1)
    (times (var 0 ⊠ var 1) (var 0 ⊠ var 1) (var 2) ∷ times (var 2) (var 0 ⊠ var 1) (var 2) ∷ le (var 2 ⊠ var 2) (var 3 ⊠ var 1) ∷ []) refl
    (pu, pi.high, (h, pi.high, (up, tt))))

-- .. and at most nine units more
square_below : (bits : ℕ) (L H q : ℤ) (p : ℚ) → IsPiAt bits L H p → IsCeiling q (H *ℤ H) (pos (2 ^ bits))
    → q ÷ 1 ≤ℚ (p *ℚ p) *ℚ whole (2 ^ bits) +ℚ whole 9
square_below bits L H q p pi ceiling =
    let u = whole (2 ^ bits) in
    let down : (q ÷ 1) *ℚ u ≤ℚ (H ÷ 1) *ℚ (H ÷ 1) +ℚ u =
    subst₂ ◌≤ℚ◌ (int-mul q (pos (2 ^ bits))) (int-add (H *ℤ H) (pos (2 ^ bits)) ∙ ap (λ z. z +ℚ u) (int-mul H H))
    (int_le (q *ℤ pos (2 ^ bits)) (H *ℤ H +ℤ pos (2 ^ bits)) (weaker (q *ℤ pos (2 ^ bits)) (H *ℤ H +ℤ pos (2 ^ bits)) ceiling.near)) in
    let upper : H ÷ 1 ≡ L ÷ 1 +ℚ whole 1 = ap (λ z. z ÷ 1) pi.one_unit ∙ int-add L (pos 1) in
    let pu : whole 0 ≤ℚ p *ℚ u = mul_nonneg p u pi.nonneg (whole_nonneg (2 ^ bits)) in
    let h : whole 0 ≤ℚ H ÷ 1 = le_trans (whole 0) (p *ℚ u) (H ÷ 1) pu pi.high in
    let next : H ÷ 1 ≤ℚ p *ℚ u +ℚ whole 1 =
    subst (λ z. z ≤ℚ p *ℚ u +ℚ whole 1) (sym upper) (le₃ ℚ_ordered (λ l p u. l ⊞ num 1) (λ l p u. p ⊠ u ⊞ num 1) (λ l p u. le l (p ⊠ u) ∷ []) refl (L ÷ 1) p u
    (pi.low, tt)) in
    let more : whole 0 ≤ℚ p *ℚ u +ℚ whole 1 = le_trans (whole 0) (H ÷ 1) (p *ℚ u +ℚ whole 1) h next in
    let one : whole 1 ≤ℚ u = whole_le 1 (2 ^ bits) (pow_pos bits) in
    cancel_le 5 (omega arith) (q ÷ 1) ((p *ℚ p) *ℚ u +ℚ whole 9)
    (cancel_le (2 ^ bits) (pow_pos bits) ((q ÷ 1) *ℚ whole 5) (((p *ℚ p) *ℚ u +ℚ whole 9) *ℚ whole 5)
    (certified ℚ_ordered (p ∷ u ∷ (H ÷ 1) ∷ (q ÷ 1) ∷ []) ((var 3 ⊠ num 5) ⊠ var 1) ((((var 0 ⊠ var 0) ⊠ var 1 ⊞ num 9) ⊠ num 5) ⊠ var 1)
    (times (num 5) (var 3 ⊠ var 1) (var 2 ⊠ var 2 ⊞ var 1) ∷ times (num 5 ⊠ var 2) (var 2) (var 0 ⊠ var 1 ⊞ num 1)
    ∷ times (num 5 ⊠ (var 0 ⊠ var 1 ⊞ num 1)) (var 2) (var 0 ⊠ var 1 ⊞ num 1) ∷ times (num 2 ⊠ var 1) (num 5 ⊠ var 0) (num 16) ∷ times (num 5) (num 1)
    (var 1) ∷ times (num 3) (num 0) (var 1) ∷ [])
    refl (
      whole_nonneg 5,
      down,
      (
        five (H ÷ 1) h,
        next,
        (
          five (p *ℚ u +ℚ whole 1) more,
          next,
          (
            mul_nonneg (whole 2) u (whole_nonneg 2) (whole_nonneg (2 ^ bits)),
            pi.small,
            (whole_nonneg 5, one, (whole_nonneg 3, whole_nonneg (2 ^ bits), tt)),
          ),
        ),
      ),
    )))
  where
    weaker : (a b : ℤ) → a <ℤ b → a ≤ℤ b
    weaker a b h = omega (arith, ints)

    five : (x : ℚ) → whole 0 ≤ℚ x → whole 0 ≤ℚ whole 5 *ℚ x
    five x h = mul_nonneg (whole 5) x (whole_nonneg 5) h

-- ---- the sag

module _ (bits : ℕ) (L H D : ℤ) (p : ℚ) (level B : ℕ) (pi : IsPiAt bits L H p) (sag : IsSag bits H level B D) where
  -- the square of half the side
  abbrev square : ℚ
  square = pos 1 ÷ 2 ^ (2 * level + 2)

  one : square *ℚ whole (2 ^ (2 * level + 2)) ≡ whole 1
  one = over-mul (pos 1) (2 ^ (2 * level + 2)) (pow_pos (2 * level + 2))

  product : (pos 2 *ℤ sag.square *ℤ pos B) ÷ 1 ≡ whole 2 *ℚ (sag.square ÷ 1) *ℚ whole B
  product = int-mul (pos 2 *ℤ sag.square) (pos B) ∙ ap (λ z. z *ℚ whole B) (int-mul (pos 2) sag.square)

  twice_bend : whole 0 ≤ℚ whole 2 *ℚ whole B *ℚ square
  twice_bend = mul_nonneg (whole 2 *ℚ whole B) square (mul_nonneg (whole 2) (whole B) (whole_nonneg 2) (whole_nonneg B)) (over_nonneg 1 (2 ^ (2 * level + 2)))

  -- the sag in units is at least the exact one ..
  pub sag_above : (whole 2 *ℚ (p *ℚ p) *ℚ (whole B *ℚ square)) *ℚ whole (2 ^ bits) ≤ℚ D ÷ 1
  sag_above =
      let up : whole 2 *ℚ (sag.square ÷ 1) *ℚ whole B ≤ℚ (D ÷ 1) *ℚ whole (2 ^ (2 * level + 2)) =
      subst₂ ◌≤ℚ◌ product (int-mul D (pos (2 ^ (2 * level + 2))))
      (int_le (pos 2 *ℤ sag.square *ℤ pos B) (D *ℤ pos (2 ^ (2 * level + 2))) sag.is_sag.at_least) in
      certified ℚ_ordered (p ∷ whole (2 ^ bits) ∷ (sag.square ÷ 1) ∷ whole B ∷ square ∷ (D ÷ 1) ∷ whole (2 ^ (2 * level + 2)) ∷ [])
      ((num 2 ⊠ (var 0 ⊠ var 0) ⊠ (var 3 ⊠ var 4)) ⊠ var 1) (var 5)
      (times (num 2 ⊠ var 3 ⊠ var 4) ((var 0 ⊠ var 0) ⊠ var 1) (var 2) ∷ times (var 4) (num 2 ⊠ var 2 ⊠ var 3) (var 5 ⊠ var 6)
      ∷ same (var 5) (var 4 ⊠ var 6) (num 1) ∷ [])
      refl (twice_bend, square_above bits L H sag.square p pi sag.is_square, (over_nonneg 1 (2 ^ (2 * level + 2)), up, (one, tt)))

  -- .. and at most a unit more, and one for each unit of weight
  pub sag_below : (w : ℕ) → B ≤ 33800 * w → 10 ≤ level → D ÷ 1 ≤ℚ (whole 2 *ℚ (p *ℚ p) *ℚ (whole B *ℚ square)) *ℚ whole (2 ^ bits) +ℚ (whole w +ℚ whole 1)
  sag_below w bent deep =
      let down : (D ÷ 1) *ℚ whole (2 ^ (2 * level + 2)) ≤ℚ whole 2 *ℚ (sag.square ÷ 1) *ℚ whole B +ℚ whole (2 ^ (2 * level + 2)) =
      subst₂ ◌≤ℚ◌ (int-mul D (pos (2 ^ (2 * level + 2)))) (int-add (pos 2 *ℤ sag.square *ℤ pos B) (pos (2 ^ (2 * level + 2))) ∙ ap
      (λ z. z +ℚ whole (2 ^ (2 * level + 2))) product)
      (int_le (D *ℤ pos (2 ^ (2 * level + 2))) (pos 2 *ℤ sag.square *ℤ pos B +ℤ pos (2 ^ (2 * level + 2)))
      (weaker (D *ℤ pos (2 ^ (2 * level + 2))) (pos 2 *ℤ sag.square *ℤ pos B +ℤ pos (2 ^ (2 * level + 2))) sag.is_sag.near)) in
      let bends : whole B ≤ℚ whole 33800 *ℚ whole w = subst (λ z. whole B ≤ℚ z) (int-mul (pos 33800) (pos w)) (whole_le B (33800 * w) bent) in
      let positive = over_nonneg 1 (2 ^ (2 * level + 2)) in
      certified ℚ_ordered (p ∷ whole (2 ^ bits) ∷ (sag.square ÷ 1) ∷ whole B ∷ square ∷ (D ÷ 1) ∷ whole (2 ^ (2 * level + 2)) ∷ whole w ∷ []) (var 5)
      ((num 2 ⊠ (var 0 ⊠ var 0) ⊠ (var 3 ⊠ var 4)) ⊠ var 1 ⊞ (var 7 ⊞ num 1))
      (times (var 4) (var 5 ⊠ var 6) (num 2 ⊠ var 2 ⊠ var 3 ⊞ var 6) ∷ same (var 5) (num 1) (var 4 ⊠ var 6) ∷ same (num 1) (var 4 ⊠ var 6) (num 1)
      ∷ times (num 2 ⊠ var 3 ⊠ var 4) (var 2) ((var 0 ⊠ var 0) ⊠ var 1 ⊞ num 9) ∷ times (num 18 ⊠ var 4) (var 3) (num 33800 ⊠ var 7)
      ∷ times (var 7) (num 608400 ⊠ var 4) (num 1) ∷ [])
      refl (
        positive,
        down,
        (
          sym one,
          (
            one,
            (
              twice_bend,
              square_below bits L H sag.square p pi sag.is_square,
              (mul_nonneg (whole 18) square (whole_nonneg 18) positive, bends, (whole_nonneg w, few, tt)),
            ),
          ),
        ),
      )
    where
      weaker : (a b : ℤ) → a <ℤ b → a ≤ℤ b
      weaker a b h = omega (arith, ints)

      few : whole 608400 *ℚ square ≤ℚ whole 1
      few =
          let exponent : 22 ≤ 2 * level + 2 = omega (arith, deep) in
          let many : 2 ^ 22 ≤ 2 ^ (2 * level + 2) = pow_mono exponent in
          let enough : 608400 ≤ 2 ^ (2 * level + 2) = omega (arith, many) in
          certified ℚ_ordered (square ∷ whole (2 ^ (2 * level + 2)) ∷ []) (num 608400 ⊠ var 0) (num 1)
          (times (var 0) (num 608400) (var 1) ∷ same (num 1) (var 0 ⊠ var 1) (num 1) ∷ []) refl
          (over_nonneg 1 (2 ^ (2 * level + 2)), whole_le 608400 (2 ^ (2 * level + 2)) enough, (one, tt))
