-- The second order of the approximations of sin(pi·t), from their law of addition: at t + v each is a combination of the values
-- at t and at t + 1/2, whose factors are near 1 and near pi·v.
use Rattle.std.proofs.Common.{◌≡◌, refl, sym, ap, ◌∙◌, subst, subst₂, ℕ, ◌^◌, ◌≤◌, pos, [], ◌∷◌, arith, lit<}
use Rattle.ring_solver.specs.Expression.{var, num, ◌⊞◌, ◌⊟◌, ◌⊠◌, opp}
use Rattle.ring_solver.specs.Ordered.{le, times, same}
use Rattle.ring_solver.proofs.Solver.{ring, ring₂, ring₃, ring₄, ring_by}
use Rattle.ring_solver.proofs.Certificate.{le₂, le₄, certified, moved, at_most_of_same}
use Rattle.rat_core.specs.Fraction.{ℚ, ◌÷◌, whole, ◌+ℚ◌, ◌-ℚ◌, ◌*ℚ◌, neg_ℚ, ◌≤ℚ◌, at_most, abs}
use Rattle.rat_core.proofs.Laws.{ℚ_ring, ℚ_ordered, over-mul, le_trans, mul_nonneg}
use Rattle.rat_core.proofs.Order.{whole_nonneg, over_nonneg, cancel_le, le_abs, neg_le_abs, abs-neg, abs_add_le, abs_of_nonneg}
use Rattle.rat_core.proofs.Sizes.{negated_low, negated_high, abs_nonneg, abs_add_three, abs_product_le, abs-square, abs_scaled_le, abs_weighted_le}
use Rattle.rat_core.proofs.Sizes.{square_scaled_le}
use Rattle.trig_meaning.specs.PartialSums.{pi_sum, sine_sum, cosine_sum}
use Rattle.trig_meaning.specs.Turn.{sine_of_turn}
use Rattle.trig_meaning.specs.Laws.{chord, SecondOrder}
use Rattle.trig_meaning.proofs.Odd.{sine_sum-neg, cosine_sum-neg}
use Rattle.trig_meaning.proofs.PiSums.{pi_sum_nonneg, five_pi_at_most_sixteen}
use Rattle.trig_meaning.proofs.Quarters.{unit, unit_nonneg, eight_fifths_at_most_two, half_twice, at_quarter, next_quarter}
use Rattle.trig_meaning.proofs.SumSizes.{cosine_from_one, sine_from_line}
use Rattle.trig_meaning.proofs.Addition.{adds, sine_bounded}

-- how near the law of addition is
abbrev near : ℚ
near = pos 1 ÷ 2 ^ 66

units_near : whole 8 *ℚ unit ≤ℚ near
unfolding at_most ◌*ℚ◌ ◌÷◌
units_near = record { le = tt }

near_small : whole 4 *ℚ near ≤ℚ pos 1 ÷ 2 ^ 50
unfolding at_most ◌*ℚ◌ ◌÷◌
near_small = record { le = tt }

eighth_small : pos 1 ÷ 8 ≤ℚ pos 1 ÷ 2
unfolding at_most ◌÷◌
eighth_small = record { le = tt }

two_fifths_small : pos 2 ÷ 5 ≤ℚ pos 8 ÷ 5
unfolding at_most ◌÷◌
two_fifths_small = record { le = tt }

-- 17·(8/5) is at most 30
seventeen_closed : whole 17 *ℚ (pos 8 ÷ 5) ≤ℚ whole 30
unfolding at_most ◌*ℚ◌ ◌÷◌
seventeen_closed = record { le = tt }

module _ (n : ℕ) (late : 20 ≤ n) where
  abbrev p : ℚ
  p = pi_sum n

  abbrev q : ℚ
  q = pos 1 ÷ 2

  abbrev P : ℚ → ℚ
  P z = sine_sum n z

  abbrev C : ℚ → ℚ
  C z = cosine_sum n z

  abbrev s : ℚ → ℚ
  s t = sine_of_turn n t

  even : (v : ℚ) → C (p *ℚ neg_ℚ v) ≡ C (p *ℚ v)
  even v = ap C (ring₂ ℚ_ring (λ p v. p ⊠ opp v) (λ p v. opp (p ⊠ v)) refl p v) ∙ cosine_sum-neg n (p *ℚ v)

  odd : (v : ℚ) → P (p *ℚ neg_ℚ v) ≡ neg_ℚ (P (p *ℚ v))
  odd v = ap P (ring₂ ℚ_ring (λ p v. p ⊠ opp v) (λ p v. opp (p ⊠ v)) refl p v) ∙ sine_sum-neg n (p *ℚ v)

  -- what the values at t and at t + 1/2 leave of the one at t + v
  abbrev rest : ℚ → ℚ → ℚ
  rest t v = s (t +ℚ v) -ℚ (C (p *ℚ v) *ℚ s t +ℚ P (p *ℚ v) *ℚ s (t +ℚ q))

  rest_small : (t v : ℚ) → neg_ℚ q ≤ℚ v → v ≤ℚ q → abs (rest t v) ≤ℚ whole 2 *ℚ near
  rest_small t v low high =
      let w = neg_ℚ v in
      let w_low = negated_low v q high in
      let w_high = negated_high v q low in
      let c = C (p *ℚ v) in
      let d = P (p *ℚ v) in
      let k = s (w +ℚ q) in
      let z₁ = k *ℚ s t -ℚ neg_ℚ d *ℚ s (t +ℚ q) -ℚ s (t +ℚ v) in
      let z₂ = (k -ℚ c) *ℚ s t in
      let added : abs z₁ ≤ℚ near =
      subst₂ (λ x y. abs (k *ℚ s t -ℚ x *ℚ s (t +ℚ q) -ℚ y) ≤ℚ near) (at_quarter n late w w_low w_high ∙ odd v)
      (ap s (ring₂ ℚ_ring (λ t v. t ⊟ opp v) (λ t v. t ⊞ v) refl t v)) (adds n late w t) in
      le_trans (abs (rest t v)) (abs (neg_ℚ z₁) +ℚ abs z₂) (whole 2 *ℚ near)
      (moved ℚ_ordered
      (ap abs (ring ℚ_ring (k ∷ s t ∷ d ∷ s (t +ℚ q) ∷ s (t +ℚ v) ∷ c ∷ [])
      (opp (var 0 ⊠ var 1 ⊟ opp (var 2) ⊠ var 3 ⊟ var 4) ⊞ (var 0 ⊟ var 5) ⊠ var 1) (var 4 ⊟ (var 5 ⊠ var 1 ⊞ var 2 ⊠ var 3)) refl)) refl
      (abs_add_le (neg_ℚ z₁) z₂))
      (certified ℚ_ordered (abs (neg_ℚ z₁) ∷ abs z₂ ∷ unit ∷ (pos 8 ÷ 5) ∷ near ∷ []) (var 0 ⊞ var 1) (num 2 ⊠ var 4)
      (le (var 0) (var 4) ∷ le (var 1) (num 4 ⊠ var 2 ⊠ var 3) ∷ times (num 4 ⊠ var 2) (var 3) (num 2) ∷ le (num 8 ⊠ var 2) (var 4) ∷ []) refl (
        moved ℚ_ordered (sym (abs-neg z₁)) refl added,
        (
          abs_product_le (k -ℚ c) (s t) (whole 4 *ℚ unit) (pos 8 ÷ 5)
              (subst (λ x. abs (k -ℚ x) ≤ℚ whole 4 *ℚ unit) (even v) (next_quarter n late w w_low w_high)) (sine_bounded n late t),
          (mul_nonneg (whole 4) unit (whole_nonneg 4) unit_nonneg, eight_fifths_at_most_two, (units_near, tt)),
        ),
      ))

  -- the factors: the cosine sum is near 1, and the sine sum near its argument
  near_one : (z : ℚ) → abs z ≤ℚ pos 2 ÷ 5 → whole 2 *ℚ abs (C z -ℚ whole 1) ≤ℚ z *ℚ z
  near_one z small = cosine_from_one n (omega (arith, late)) z (le_trans (abs z) (pos 2 ÷ 5) (pos 8 ÷ 5) small two_fifths_small)

  near_line : (z : ℚ) → abs z ≤ℚ pos 2 ÷ 5 → whole 15 *ℚ abs (P z -ℚ z) ≤ℚ z *ℚ z
  near_line z small =
      let square_nonneg = moved ℚ_ordered refl (abs-square z) (mul_nonneg (abs z) (abs z) (abs_nonneg z) (abs_nonneg z)) in
      cancel_le 2 (lit< tt) (whole 15 *ℚ abs (P z -ℚ z)) (z *ℚ z)
      (le₄ ℚ_ordered (λ d z a f. num 15 ⊠ d ⊠ num 2) (λ d z a f. z ⊠ z ⊠ num 2)
      (λ d z a f. times (num 5) (num 6 ⊠ d) (z ⊠ z ⊠ a) ∷ times (num 5 ⊠ (z ⊠ z)) a f ∷ same (z ⊠ z) (f ⊠ num 5) (num 2) ∷ []) refl
      (abs (P z -ℚ z)) z (abs z) (pos 2 ÷ 5) (
        whole_nonneg 5,
        sine_from_line n (omega (arith, late)) z (le_trans (abs z) (pos 2 ÷ 5) (pos 8 ÷ 5) small two_fifths_small),
        (mul_nonneg (whole 5) (z *ℚ z) (whole_nonneg 5) square_nonneg, small, (over-mul (pos 2) 5 (lit< tt), tt)),
      ))

  -- ---- t, h and u as the law has them

  module _ (t h u : ℚ) (h_low : whole 0 ≤ℚ h) (h_high : h ≤ℚ pos 1 ÷ 8) (u_low : neg_ℚ (whole 1) ≤ℚ u) (u_high : u ≤ℚ whole 1) where
    abbrev y : ℚ
    y = p *ℚ h

    abbrev z : ℚ
    z = u *ℚ y

    abbrev first_weight : ℚ
    first_weight = q *ℚ (whole 1 -ℚ u)

    abbrev second_weight : ℚ
    second_weight = q *ℚ (whole 1 +ℚ u)

    y_nonneg : whole 0 ≤ℚ y
    y_nonneg = mul_nonneg p h (pi_sum_nonneg n (omega (arith, late))) h_low

    y_small : abs y ≤ℚ pos 2 ÷ 5
    y_small =
        moved ℚ_ordered (sym (abs_of_nonneg y y_nonneg)) refl
        (cancel_le 40 (lit< tt) y (pos 2 ÷ 5)
        (le₄ ℚ_ordered (λ p h e f. p ⊠ h ⊠ num 40) (λ p h e f. f ⊠ num 40)
        (λ p h e f. times (num 40 ⊠ p) h e ∷ same (num 5 ⊠ p) (e ⊠ num 8) (num 1) ∷ le (num 5 ⊠ p) (num 16) ∷ same (num 8) (num 2) (f ⊠ num 5) ∷ []) refl
        p h (pos 1 ÷ 8) (pos 2 ÷ 5) (
          mul_nonneg (whole 40) p (whole_nonneg 40) (pi_sum_nonneg n (omega (arith, late))),
          h_high,
          (over-mul (pos 1) 8 (lit< tt), (five_pi_at_most_sixteen n (omega (arith, late)), (sym (over-mul (pos 2) 5 (lit< tt)), tt))),
        )))

    z_small : abs z ≤ℚ pos 2 ÷ 5
    z_small = abs_scaled_le u y (pos 2 ÷ 5) u_low u_high y_small

    z_square : z *ℚ z ≤ℚ y *ℚ y
    z_square = square_scaled_le u y u_low u_high y_nonneg

    -- the cosine sums at both places are near each other
    cosines_near : abs (C z -ℚ C y) ≤ℚ y *ℚ y
    cosines_near =
        let a = C z -ℚ whole 1 in
        let b = neg_ℚ (C y -ℚ whole 1) in
        cancel_le 2 (lit< tt) (abs (C z -ℚ C y)) (y *ℚ y)
        (certified ℚ_ordered (abs (C z -ℚ C y) ∷ abs a ∷ abs b ∷ z ∷ y ∷ []) (var 0 ⊠ num 2) (var 4 ⊠ var 4 ⊠ num 2)
        (times (num 2) (var 0) (var 1 ⊞ var 2) ∷ le (num 2 ⊠ var 1) (var 3 ⊠ var 3) ∷ le (num 2 ⊠ var 2) (var 4 ⊠ var 4) ∷ le (var 3 ⊠ var 3)
        (var 4 ⊠ var 4) ∷ []) refl (
          whole_nonneg 2,
          moved ℚ_ordered (ap abs (ring₂ ℚ_ring (λ c d. c ⊟ num 1 ⊞ opp (d ⊟ num 1)) (λ c d. c ⊟ d) refl (C z) (C y))) refl (abs_add_le a b),
          (near_one z z_small, (moved ℚ_ordered (ap (λ t. whole 2 *ℚ t) (sym (abs-neg (C y -ℚ whole 1)))) refl (near_one y y_small), (z_square, tt))),
        ))

    -- and the sine sums near a line through 0
    sines_near : whole 15 *ℚ abs (P z -ℚ u *ℚ P y) ≤ℚ whole 2 *ℚ (y *ℚ y)
    sines_near =
        let a = P z -ℚ z in
        let b = neg_ℚ (u *ℚ (P y -ℚ y)) in
        let b_small : abs b ≤ℚ abs (P y -ℚ y) =
        moved ℚ_ordered (sym (abs-neg (u *ℚ (P y -ℚ y)))) refl (abs_scaled_le u (P y -ℚ y) (abs (P y -ℚ y)) u_low u_high (at_most_of_same ℚ_ordered refl)) in
        certified ℚ_ordered (abs (P z -ℚ u *ℚ P y) ∷ abs a ∷ abs b ∷ abs (P y -ℚ y) ∷ z ∷ y ∷ []) (num 15 ⊠ var 0) (num 2 ⊠ (var 5 ⊠ var 5))
        (times (num 15) (var 0) (var 1 ⊞ var 2) ∷ le (num 15 ⊠ var 1) (var 4 ⊠ var 4) ∷ times (num 15) (var 2) (var 3) ∷ le (num 15 ⊠ var 3) (var 5 ⊠ var 5)
        ∷ le (var 4 ⊠ var 4) (var 5 ⊠ var 5) ∷ []) refl (
          whole_nonneg 15,
          moved ℚ_ordered (ap abs (ring₄ ℚ_ring (λ f g u y. f ⊟ u ⊠ y ⊞ opp (u ⊠ (g ⊟ y))) (λ f g u y. f ⊟ u ⊠ g) refl (P z) (P y) u y)) refl (abs_add_le a b),
          (near_line z z_small, (whole_nonneg 15, b_small, (near_line y y_small, (z_square, tt)))),
        )

    -- what the law of addition leaves at the three places
    abbrev rests : ℚ
    rests = rest t (u *ℚ h) +ℚ neg_ℚ (first_weight *ℚ rest t (neg_ℚ h)) +ℚ neg_ℚ (second_weight *ℚ rest t h)

    rests_small : abs rests ≤ℚ whole 4 *ℚ near
    rests_small =
        let e₀ = rest t (u *ℚ h) in
        let e₁ = rest t (neg_ℚ h) in
        let e₂ = rest t h in
        let b = whole 2 *ℚ near in
        let h_half : h ≤ℚ q = le_trans h (pos 1 ÷ 8) q h_high eighth_small in
        let minus : neg_ℚ q ≤ℚ h = le₂ ℚ_ordered (λ h q. opp q) (λ h q. h) (λ h q. le (num 0) h ∷ le (num 0) q ∷ []) refl h q (h_low, (over_nonneg 1 2, tt)) in
        let size : abs (u *ℚ h) ≤ℚ q = abs_scaled_le u h q u_low u_high (moved ℚ_ordered (sym (abs_of_nonneg h h_low)) refl h_half) in
        let up : u *ℚ h ≤ℚ q = le_trans (u *ℚ h) (abs (u *ℚ h)) q (le_abs (u *ℚ h)) size in
        let down : neg_ℚ q ≤ℚ u *ℚ h =
        le₂ ℚ_ordered (λ v q. opp q) (λ v q. v) (λ v q. le (opp v) q ∷ []) refl (u *ℚ h) q
        (le_trans (neg_ℚ (u *ℚ h)) (abs (u *ℚ h)) q (neg_le_abs (u *ℚ h)) size, tt) in
        le_trans _ (abs e₀ +ℚ abs (neg_ℚ (first_weight *ℚ e₁)) +ℚ abs (neg_ℚ (second_weight *ℚ e₂))) _
        (abs_add_three e₀ (neg_ℚ (first_weight *ℚ e₁)) (neg_ℚ (second_weight *ℚ e₂)))
        (certified ℚ_ordered (abs e₀ ∷ abs (neg_ℚ (first_weight *ℚ e₁)) ∷ abs (neg_ℚ (second_weight *ℚ e₂)) ∷ q ∷ u ∷ near ∷ [])
        (var 0 ⊞ var 1 ⊞ var 2) (num 4 ⊠ var 5)
        (le (var 0) (num 2 ⊠ var 5) ∷ le (var 1) (var 3 ⊠ (num 1 ⊟ var 4) ⊠ (num 2 ⊠ var 5)) ∷ le (var 2) (var 3 ⊠ (num 1 ⊞ var 4) ⊠ (num 2 ⊠ var 5))
        ∷ same (num 2 ⊠ var 5) (var 3 ⊠ num 2) (num 1) ∷ []) refl (
          rest_small t (u *ℚ h) down up,
          (
            abs_weighted_le first_weight e₁ b
                (mul_nonneg q (whole 1 -ℚ u) (over_nonneg 1 2)
                (le₂ ℚ_ordered (λ u q. num 0) (λ u q. num 1 ⊟ u) (λ u q. le u (num 1) ∷ []) refl u q (u_high, tt)))
                (rest_small t (neg_ℚ h) (negated_low h q h_half) (negated_high h q minus)),
            (
              abs_weighted_le second_weight e₂ b
                  (mul_nonneg q (whole 1 +ℚ u) (over_nonneg 1 2)
                  (le₂ ℚ_ordered (λ u q. num 0) (λ u q. num 1 ⊞ u) (λ u q. le (opp (num 1)) u ∷ []) refl u q (u_low, tt)))
                  (rest_small t h minus h_half),
              (half_twice, tt),
            ),
          ),
        ))

    -- the distance from the chord is what is left, and the differences of the factors
    parts : rests +ℚ (C z -ℚ C y) *ℚ s t +ℚ (P z -ℚ u *ℚ P y) *ℚ s (t +ℚ q) ≡ s (t +ℚ u *ℚ h) -ℚ chord s t h u
    parts =
        subst₂ (λ c d. s (t +ℚ u *ℚ h) -ℚ (c *ℚ s t +ℚ d *ℚ s (t +ℚ q)) +ℚ neg_ℚ (first_weight *ℚ rest t (neg_ℚ h)) +ℚ neg_ℚ (second_weight *ℚ rest t h)
        +ℚ (C z -ℚ C y) *ℚ s t +ℚ (P z -ℚ u *ℚ P y) *ℚ s (t +ℚ q) ≡ s (t +ℚ u *ℚ h) -ℚ chord s t h u)
        (ap C (sym place)) (ap P (sym place))
        (subst₂ (λ c d. s (t +ℚ u *ℚ h) -ℚ (C z *ℚ s t +ℚ P z *ℚ s (t +ℚ q))
        +ℚ neg_ℚ (first_weight *ℚ (s (t -ℚ h) -ℚ (c *ℚ s t +ℚ d *ℚ s (t +ℚ q)))) +ℚ neg_ℚ (second_weight *ℚ rest t h)
        +ℚ (C z -ℚ C y) *ℚ s t +ℚ (P z -ℚ u *ℚ P y) *ℚ s (t +ℚ q) ≡ s (t +ℚ u *ℚ h) -ℚ chord s t h u)
        (sym (even h)) (sym (odd h))
        (ring_by ℚ_ring (s (t +ℚ u *ℚ h) ∷ s (t -ℚ h) ∷ s (t +ℚ h) ∷ s t ∷ s (t +ℚ q) ∷ C z ∷ P z ∷ C y ∷ P y ∷ q ∷ u ∷ [])
        (var 0 ⊟ (var 5 ⊠ var 3 ⊞ var 6 ⊠ var 4)
        ⊞ opp (var 9 ⊠ (num 1 ⊟ var 10) ⊠ (var 1 ⊟ (var 7 ⊠ var 3 ⊞ opp (var 8) ⊠ var 4)))
        ⊞ opp (var 9 ⊠ (num 1 ⊞ var 10) ⊠ (var 2 ⊟ (var 7 ⊠ var 3 ⊞ var 8 ⊠ var 4)))
        ⊞ (var 5 ⊟ var 7) ⊠ var 3 ⊞ (var 6 ⊟ var 10 ⊠ var 8) ⊠ var 4)
        (var 0 ⊟ (var 9 ⊠ (num 1 ⊟ var 10) ⊠ var 1 ⊞ var 9 ⊠ (num 1 ⊞ var 10) ⊠ var 2))
        (var 7 ⊠ var 3 ⊞ var 10 ⊠ var 8 ⊠ var 4) (var 9 ⊠ num 2) (num 1) refl half_twice))
      where
        place : p *ℚ (u *ℚ h) ≡ z
        place = ring₃ ℚ_ring (λ p u h. p ⊠ (u ⊠ h)) (λ p u h. u ⊠ (p ⊠ h)) refl p u h

    pub second_order : abs (s (t +ℚ u *ℚ h) -ℚ chord s t h u) ≤ℚ whole 2 *ℚ (p *ℚ p) *ℚ (h *ℚ h) +ℚ pos 1 ÷ 2 ^ 50
    second_order =
        let x₁ = (C z -ℚ C y) *ℚ s t in
        let x₂ = (P z -ℚ u *ℚ P y) *ℚ s (t +ℚ q) in
        let d = abs (P z -ℚ u *ℚ P y) in
        let g = pos 8 ÷ 5 in
        let y_square = mul_nonneg y y y_nonneg y_nonneg in
        le_trans _ (abs rests +ℚ abs x₁ +ℚ abs x₂) _ (moved ℚ_ordered (ap abs parts) refl (abs_add_three rests x₁ x₂))
        (cancel_le 15 (lit< tt) (abs rests +ℚ abs x₁ +ℚ abs x₂) (whole 2 *ℚ (p *ℚ p) *ℚ (h *ℚ h) +ℚ pos 1 ÷ 2 ^ 50)
        (certified ℚ_ordered (abs rests ∷ abs x₁ ∷ abs x₂ ∷ p ∷ h ∷ near ∷ (pos 1 ÷ 2 ^ 50) ∷ g ∷ d ∷ [])
        ((var 0 ⊞ var 1 ⊞ var 2) ⊠ num 15) ((num 2 ⊠ (var 3 ⊠ var 3) ⊠ (var 4 ⊠ var 4) ⊞ var 6) ⊠ num 15)
        (times (num 15) (var 0) (num 4 ⊠ var 5) ∷ times (num 15) (num 4 ⊠ var 5) (var 6)
        ∷ times (num 15) (var 1) (var 3 ⊠ var 4 ⊠ (var 3 ⊠ var 4) ⊠ var 7)
        ∷ times (num 15) (var 2) (var 8 ⊠ var 7)
        ∷ times (var 7) (num 15 ⊠ var 8) (num 2 ⊠ (var 3 ⊠ var 4 ⊠ (var 3 ⊠ var 4)))
        ∷ times (var 3 ⊠ var 4 ⊠ (var 3 ⊠ var 4)) (num 17 ⊠ var 7) (num 30) ∷ []) refl (
          whole_nonneg 15,
          rests_small,
          (
            whole_nonneg 15,
            near_small,
            (
              whole_nonneg 15,
              abs_product_le (C z -ℚ C y) (s t) (y *ℚ y) g cosines_near (sine_bounded n late t),
              (
                whole_nonneg 15,
                abs_product_le (P z -ℚ u *ℚ P y) (s (t +ℚ q)) d g (at_most_of_same ℚ_ordered refl) (sine_bounded n late (t +ℚ q)),
                (over_nonneg 8 5, sines_near, (y_square, seventeen_closed, tt)),
              ),
            ),
          ),
        )))

pub second_order_lem : SecondOrder
second_order_lem = (20, λ n late t h u h_low h_high u_low u_high. second_order n late t h u h_low h_high u_low u_high)
