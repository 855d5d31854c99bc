-- The law of addition for the approximations of sin(pi·t): near 0 by the addition of the sums, and from there by half turns.
use Rattle.std.proofs.Common.{◌≡◌, refl, sym, ap, ap₂, ◌∙◌, subst, subst₂, ℕ, ◌^◌, ◌≤◌, ℤ, pos, [], ◌∷◌}
use Rattle.ring_solver.specs.Expression.{var, num, ◌⊞◌, ◌⊟◌, ◌⊠◌, opp}
use Rattle.ring_solver.specs.Ordered.{le, times, same}
use Rattle.ring_solver.proofs.Solver.{ring, ring₁, ring₂, ring₃}
use Rattle.ring_solver.proofs.Certificate.{le₁, le₂, certified, moved}
use Rattle.rat_core.specs.Fraction.{ℚ, ◌÷◌, whole, ◌+ℚ◌, ◌-ℚ◌, ◌*ℚ◌, neg_ℚ, ◌≤ℚ◌, at_most, abs, floor, wrapped}
use Rattle.rat_core.proofs.Laws.{ℚ_ring, ℚ_ordered, le_trans, le_or_lt, lt_le}
use Rattle.rat_core.proofs.Order.{whole_nonneg, over_nonneg, abs-neg, abs_add_le}
use Rattle.rat_core.proofs.Sizes.{abs_add_three, abs_product_le}
use Rattle.rat_core.proofs.Wrapped.{wrapped_low, wrapped_high}
use Rattle.trig_meaning.specs.PartialSums.{pi_sum, sine_sum, cosine_sum}
use Rattle.trig_meaning.specs.Turn.{sine_of_turn}
use Rattle.trig_meaning.specs.Laws.{Addition}
use Rattle.trig_meaning.proofs.Odd.{sine_sum-neg, cosine_sum-neg}
use Rattle.trig_meaning.proofs.Pieces.{half_turn_negates_lem, whole_turns_keep_lem}
use Rattle.trig_meaning.proofs.Quarters.{unit, unit_nonneg, rest_in_unit, eight_fifths_at_most_two, half_twice, quarter_size, at_quarter, next_quarter, sum_at}
use Rattle.trig_meaning.proofs.SumAddition.{sine_addition}
use Rattle.trig_meaning.proofs.SumSizes.{sine_sum_small}

-- what holds from −1/2 to 1/2, and of t + 1 and t + 2k where it holds of t, holds of all fractions
pub everywhere : (Q : ℚ → Type 0) → ((t : ℚ) → neg_ℚ (pos 1 ÷ 2) ≤ℚ t → t ≤ℚ pos 1 ÷ 2 → Q t) → ((t : ℚ) → Q t → Q (t +ℚ whole 1))
    → ((t : ℚ) (k : ℤ) → Q t → Q (t +ℚ whole 2 *ℚ (k ÷ 1))) → (t : ℚ) → Q t
everywhere Q near half turns t =
    let w = wrapped t in
    let k = floor (t *ℚ (pos 1 ÷ 2)) in
    let q = pos 1 ÷ 2 in
    let low = wrapped_low t in
    let high = lt_le w (whole 2) (wrapped_high t) in
    subst Q (ring₂ ℚ_ring (λ t k. t ⊟ num 2 ⊠ k ⊞ num 2 ⊠ k) (λ t k. t) refl t (k ÷ 1))
    (turns w k
    (le_or_lt w q
    (λ h. near w (le₂ ℚ_ordered (λ w q. opp q) (λ w q. w) (λ w q. le (num 0) w ∷ le (num 0) q ∷ []) refl w q (low, (over_nonneg 1 2, tt))) h)
    (λ after_half. le_or_lt w (whole 1 +ℚ q)
    (λ h. subst Q (ring₁ ℚ_ring (λ w. w ⊟ num 1 ⊞ num 1) (λ w. w) refl w)
    (half (w -ℚ whole 1) (near (w -ℚ whole 1)
    (le₂ ℚ_ordered (λ w q. opp q) (λ w q. w ⊟ num 1) (λ w q. le q w ∷ same (num 1) (num 1) (q ⊠ num 2) ∷ []) refl w q
    (lt_le q w after_half, (sym half_twice, tt)))
    (le₂ ℚ_ordered (λ w q. w ⊟ num 1) (λ w q. q) (λ w q. le w (num 1 ⊞ q) ∷ []) refl w q (h, tt)))))
    (λ l. subst Q (ring₁ ℚ_ring (λ w. w ⊟ num 2 ⊞ num 2 ⊠ num 1) (λ w. w) refl w)
    (turns (w -ℚ whole 2) (pos 1) (near (w -ℚ whole 2)
    (le₂ ℚ_ordered (λ w q. opp q) (λ w q. w ⊟ num 2) (λ w q. le (num 1 ⊞ q) w ∷ same (num 1) (num 1) (q ⊠ num 2) ∷ []) refl w q
    (lt_le (whole 1 +ℚ q) w l, (sym half_twice, tt)))
    (le₂ ℚ_ordered (λ w q. w ⊟ num 2) (λ w q. q) (λ w q. le w (num 2) ∷ le (num 0) q ∷ []) refl w q (high, (over_nonneg 1 2, tt)))))))))

units_small : whole 64 *ℚ unit ≤ℚ pos 1 ÷ 2 ^ 66
unfolding at_most ◌*ℚ◌ ◌÷◌
units_small = record { le = tt }

module _ (n : ℕ) (late : 20 ≤ n) where
  abbrev p : ℚ
  p = pi_sum n

  abbrev q : ℚ
  q = pos 1 ÷ 2

  abbrev P : ℚ → ℚ
  P z = sine_sum n z

  abbrev C : ℚ → ℚ
  C z = cosine_sum n z

  abbrev s : ℚ → ℚ
  s t = sine_of_turn n t

  -- how far the approximations at t and u are from the law
  abbrev off : ℚ → ℚ → ℚ
  off t u = s (t +ℚ q) *ℚ s u -ℚ s t *ℚ s (u +ℚ q) -ℚ s (u -ℚ t)

  abbrev Adds : ℚ → ℚ → Type 0
  Adds t u = abs (off t u) ≤ℚ pos 1 ÷ 2 ^ 66

  -- the sums at pi·u and −pi·t
  sums_add : (t u : ℚ) → neg_ℚ q ≤ℚ t → t ≤ℚ q → neg_ℚ q ≤ℚ u → u ≤ℚ q
      → abs (P (p *ℚ u) *ℚ C (p *ℚ t) +ℚ C (p *ℚ u) *ℚ neg_ℚ (P (p *ℚ t)) -ℚ P (p *ℚ (u -ℚ t))) ≤ℚ unit
  sums_add t u t_low t_high u_low u_high =
      let z = p *ℚ t in
      le_trans _ (pos 1 ÷ 2 ^ 90) unit
      (moved ℚ_ordered
      (ap abs (ap₂ ◌-ℚ◌ (ap₂ (λ c x. P (p *ℚ u) *ℚ c +ℚ C (p *ℚ u) *ℚ x) (cosine_sum-neg n z) (sine_sum-neg n z))
      (ap P (ring₃ ℚ_ring (λ p u t. p ⊠ u ⊞ opp (p ⊠ t)) (λ p u t. p ⊠ (u ⊟ t)) refl p u t)))) refl
      (sine_addition n late (p *ℚ u) (neg_ℚ z) (quarter_size n late u u_low u_high)
      (moved ℚ_ordered (sym (abs-neg z)) refl (quarter_size n late t t_low t_high))))
      rest_in_unit

  near_zero : (t u : ℚ) → neg_ℚ q ≤ℚ t → t ≤ℚ q → neg_ℚ q ≤ℚ u → u ≤ℚ q → Adds t u
  near_zero t u t_low t_high u_low u_high =
      let a = C (p *ℚ t) in
      let b = C (p *ℚ u) in
      let x = P (p *ℚ t) in
      let y = P (p *ℚ u) in
      let k = s (t +ℚ q) in
      let l = s (u +ℚ q) in
      let f = P (p *ℚ (u -ℚ t)) in
      let r = s (u -ℚ t) in
      let g = pos 8 ÷ 5 in
      let x₁ = (k -ℚ a) *ℚ y in
      let x₂ = x *ℚ (l -ℚ b) in
      let x₃ = y *ℚ a +ℚ b *ℚ neg_ℚ x -ℚ f in
      let x₄ = f -ℚ r in
      let y_small = sine_sum_small n (p *ℚ u) (quarter_size n late u u_low u_high) in
      let x_small = sine_sum_small n (p *ℚ t) (quarter_size n late t t_low t_high) in
      let near : abs x₄ ≤ℚ whole 8 *ℚ unit =
      sum_at n late (u -ℚ t)
      (certified ℚ_ordered (t ∷ u ∷ q ∷ []) (opp (num 1)) (var 1 ⊟ var 0)
      (le (opp (var 2)) (var 1) ∷ le (var 0) (var 2) ∷ same (num 1) (var 2 ⊠ num 2) (num 1) ∷ []) refl
      (u_low, (t_high, (half_twice, tt))))
      (certified ℚ_ordered (t ∷ u ∷ q ∷ []) (var 1 ⊟ var 0) (num 1)
      (le (var 1) (var 2) ∷ le (opp (var 2)) (var 0) ∷ same (num 1) (var 2 ⊠ num 2) (num 1) ∷ []) refl
      (u_high, (t_low, (half_twice, tt)))) in
      subst₂ (λ y x. abs (k *ℚ y -ℚ x *ℚ l -ℚ r) ≤ℚ pos 1 ÷ 2 ^ 66) (sym (at_quarter n late u u_low u_high)) (sym (at_quarter n late t t_low t_high))
      (le_trans _ (abs (x₁ +ℚ x₃ +ℚ x₄) +ℚ abs (neg_ℚ x₂)) _
      (moved ℚ_ordered
      (ap abs (ring ℚ_ring (a ∷ b ∷ x ∷ y ∷ k ∷ l ∷ f ∷ r ∷ [])
      ((var 4 ⊟ var 0) ⊠ var 3 ⊞ (var 3 ⊠ var 0 ⊞ var 1 ⊠ opp (var 2) ⊟ var 6) ⊞ (var 6 ⊟ var 7) ⊞ opp (var 2 ⊠ (var 5 ⊟ var 1)))
      (var 4 ⊠ var 3 ⊟ var 2 ⊠ var 5 ⊟ var 7) refl)) refl
      (abs_add_le (x₁ +ℚ x₃ +ℚ x₄) (neg_ℚ x₂)))
      (certified ℚ_ordered (abs (x₁ +ℚ x₃ +ℚ x₄) ∷ abs (neg_ℚ x₂) ∷ abs x₁ ∷ abs x₃ ∷ abs x₄ ∷ unit ∷ g ∷ (pos 1 ÷ 2 ^ 66) ∷ []) (var 0 ⊞ var 1) (var 7)
      (le (var 0) (var 2 ⊞ var 3 ⊞ var 4) ∷ le (var 1) (var 6 ⊠ (num 4 ⊠ var 5)) ∷ le (var 2) (num 4 ⊠ var 5 ⊠ var 6) ∷ le (var 3) (var 5) ∷ le
      (var 4) (num 8 ⊠ var 5)
      ∷ times (var 5) (num 8 ⊠ var 6) (num 16) ∷ le (num 64 ⊠ var 5) (var 7) ∷ times (num 39) (num 0) (var 5) ∷ []) refl (
        abs_add_three x₁ x₃ x₄,
        (
          moved ℚ_ordered (sym (abs-neg x₂)) refl (abs_product_le x (l -ℚ b) g (whole 4 *ℚ unit) x_small (next_quarter n late u u_low u_high)),
          (
            abs_product_le (k -ℚ a) y (whole 4 *ℚ unit) g (next_quarter n late t t_low t_high) y_small,
            (sums_add t u t_low t_high u_low u_high, (near, (unit_nonneg, eight_eight_fifths, (units_small, (whole_nonneg 39, unit_nonneg, tt))))),
          ),
        ),
      )))
    where
      eight_eight_fifths : whole 8 *ℚ (pos 8 ÷ 5) ≤ℚ whole 16
      eight_eight_fifths = le₁ ℚ_ordered (λ g. num 8 ⊠ g) (λ g. num 16) (λ g. times (num 8) g (num 2) ∷ []) refl (pos 8 ÷ 5)
          (whole_nonneg 8, eight_fifths_at_most_two, tt)

  -- ---- half turns and whole turns more

  -- half a turn more in t or in u turns the sign of both products and of the sine of the difference
  half_kept : (a b c a' b' c' d : ℚ) → a' ≡ neg_ℚ a → b' ≡ neg_ℚ b → c ≡ neg_ℚ c' → abs (a *ℚ d -ℚ b -ℚ c) ≤ℚ pos 1 ÷ 2 ^ 66
      → abs (a' *ℚ d -ℚ b' -ℚ c') ≤ℚ pos 1 ÷ 2 ^ 66
  half_kept a b c a' b' c' d e₁ e₂ e₃ h =
      moved ℚ_ordered
      (sym (ap₂ (λ x y. abs (x *ℚ d -ℚ y -ℚ c')) e₁ e₂
      ∙ ap abs (ring₃ ℚ_ring (λ x y c. x ⊟ y ⊟ c) (λ x y c. x ⊟ y ⊟ c) refl (neg_ℚ a *ℚ d) (neg_ℚ b) c')
      ∙ ap abs (ring ℚ_ring (a ∷ b ∷ c' ∷ d ∷ []) (opp (var 0) ⊠ var 3 ⊟ opp (var 1) ⊟ var 2) (opp (var 0 ⊠ var 3 ⊟ var 1 ⊟ opp (var 2))) refl)
      ∙ abs-neg (a *ℚ d -ℚ b -ℚ neg_ℚ c') ∙ ap (λ t. abs (a *ℚ d -ℚ b -ℚ t)) (sym e₃))) refl h

  t_half : (t u : ℚ) → Adds t u → Adds (t +ℚ whole 1) u
  t_half t u h =
      half_kept (s (t +ℚ q)) (s t *ℚ s (u +ℚ q)) (s (u -ℚ t)) (s (t +ℚ whole 1 +ℚ q)) (s (t +ℚ whole 1) *ℚ s (u +ℚ q)) (s (u -ℚ (t +ℚ whole 1))) (s u)
      (ap s (ring₂ ℚ_ring (λ t q. t ⊞ num 1 ⊞ q) (λ t q. t ⊞ q ⊞ num 1) refl t q) ∙ half_turn_negates_lem n (t +ℚ q))
      (ap (λ x. x *ℚ s (u +ℚ q)) (half_turn_negates_lem n t) ∙ ring₂ ℚ_ring (λ x y. opp x ⊠ y) (λ x y. opp (x ⊠ y)) refl (s t) (s (u +ℚ q)))
      (ap s (ring₂ ℚ_ring (λ t u. u ⊟ t) (λ t u. u ⊟ (t ⊞ num 1) ⊞ num 1) refl t u) ∙ half_turn_negates_lem n (u -ℚ (t +ℚ whole 1))) h

  t_turn : (t u : ℚ) (k : ℤ) → Adds t u → Adds (t +ℚ whole 2 *ℚ (k ÷ 1)) u
  t_turn t u k h =
      let v = t +ℚ whole 2 *ℚ (k ÷ 1) in
      let first : s (t +ℚ q) ≡ s (v +ℚ q) =
      sym (ap s (ring₃ ℚ_ring (λ t q k. t ⊞ num 2 ⊠ k ⊞ q) (λ t q k. t ⊞ q ⊞ num 2 ⊠ k) refl t q (k ÷ 1)) ∙ whole_turns_keep_lem n (t +ℚ q) k) in
      let last : s (u -ℚ t) ≡ s (u -ℚ v) =
      ap s (ring₃ ℚ_ring (λ t u k. u ⊟ t) (λ t u k. u ⊟ (t ⊞ num 2 ⊠ k) ⊞ num 2 ⊠ k) refl t u (k ÷ 1)) ∙ whole_turns_keep_lem n (u -ℚ v) k in
      moved ℚ_ordered (ap abs (ap₂ ◌-ℚ◌ (ap₂ (λ x y. x *ℚ s u -ℚ y *ℚ s (u +ℚ q)) first (sym (whole_turns_keep_lem n t k))) last)) refl h

  u_half : (t u : ℚ) → Adds t u → Adds t (u +ℚ whole 1)
  u_half t u h =
      moved ℚ_ordered
      (ap (λ x. abs (x -ℚ s t *ℚ s (u +ℚ whole 1 +ℚ q) -ℚ s (u +ℚ whole 1 -ℚ t)))
      (ring₂ ℚ_ring (λ x y. x ⊠ y) (λ x y. y ⊠ x) refl (s (u +ℚ whole 1)) (s (t +ℚ q)))) refl
      (half_kept (s u) (s t *ℚ s (u +ℚ q)) (s (u -ℚ t)) (s (u +ℚ whole 1)) (s t *ℚ s (u +ℚ whole 1 +ℚ q)) (s (u +ℚ whole 1 -ℚ t)) (s (t +ℚ q))
      (half_turn_negates_lem n u)
      (ap (λ x. s t *ℚ x) (ap s (ring₂ ℚ_ring (λ u q. u ⊞ num 1 ⊞ q) (λ u q. u ⊞ q ⊞ num 1) refl u q) ∙ half_turn_negates_lem n (u +ℚ q))
      ∙ ring₂ ℚ_ring (λ x y. x ⊠ opp y) (λ x y. opp (x ⊠ y)) refl (s t) (s (u +ℚ q)))
      (ring₁ ℚ_ring (λ x. x) (λ x. opp (opp x)) refl (s (u -ℚ t))
      ∙ ap neg_ℚ (sym (ap s (ring₂ ℚ_ring (λ t u. u ⊞ num 1 ⊟ t) (λ t u. u ⊟ t ⊞ num 1) refl t u) ∙ half_turn_negates_lem n (u -ℚ t))))
      (moved ℚ_ordered (ap (λ x. abs (x -ℚ s t *ℚ s (u +ℚ q) -ℚ s (u -ℚ t))) (ring₂ ℚ_ring (λ x y. x ⊠ y) (λ x y. y ⊠ x) refl (s (t +ℚ q)) (s u))) refl h))

  u_turn : (t u : ℚ) (k : ℤ) → Adds t u → Adds t (u +ℚ whole 2 *ℚ (k ÷ 1))
  u_turn t u k h =
      let v = u +ℚ whole 2 *ℚ (k ÷ 1) in
      let second : s (u +ℚ q) ≡ s (v +ℚ q) =
      sym (ap s (ring₃ ℚ_ring (λ t q k. t ⊞ num 2 ⊠ k ⊞ q) (λ t q k. t ⊞ q ⊞ num 2 ⊠ k) refl u q (k ÷ 1)) ∙ whole_turns_keep_lem n (u +ℚ q) k) in
      let last : s (u -ℚ t) ≡ s (v -ℚ t) =
      sym (ap s (ring₃ ℚ_ring (λ t u k. u ⊞ num 2 ⊠ k ⊟ t) (λ t u k. u ⊟ t ⊞ num 2 ⊠ k) refl t u (k ÷ 1)) ∙ whole_turns_keep_lem n (u -ℚ t) k) in
      moved ℚ_ordered (ap abs (ap₂ ◌-ℚ◌ (ap₂ (λ x y. s (t +ℚ q) *ℚ x -ℚ s t *ℚ y) (sym (whole_turns_keep_lem n u k)) second) last)) refl h

  pub adds : (t u : ℚ) → Adds t u
  adds t u =
      everywhere (λ t. Adds t u)
      (λ t t_low t_high. everywhere (λ u. Adds t u) (λ u u_low u_high. near_zero t u t_low t_high u_low u_high) (u_half t) (u_turn t) u)
      (λ t. t_half t u) (λ t. t_turn t u) t

  -- the size of the approximation
  pub sine_bounded : (t : ℚ) → abs (s t) ≤ℚ pos 8 ÷ 5
  sine_bounded =
      everywhere (λ t. abs (s t) ≤ℚ pos 8 ÷ 5)
      (λ t low high. moved ℚ_ordered (ap abs (sym (at_quarter n late t low high))) refl (sine_sum_small n (p *ℚ t) (quarter_size n late t low high)))
      (λ t h. moved ℚ_ordered (sym (ap abs (half_turn_negates_lem n t) ∙ abs-neg (s t))) refl h)
      (λ t k h. moved ℚ_ordered (ap abs (sym (whole_turns_keep_lem n t k))) refl h)

pub addition_lem : Addition
addition_lem = (20, adds)
