-- The approximations of the sine and the cosine lie near the unit circle: their sizes add up to at most 17/12.
use Rattle.std.proofs.Common.{◌≡◌, refl, sym, ap, ap₂, ◌∙◌, ℕ, ◌≤◌, ◌^◌, [], ◌∷◌, pos}
use Rattle.ring_solver.specs.Expression.{var, num, opp, ◌⊞◌, ◌⊟◌, ◌⊠◌}
use Rattle.ring_solver.specs.Ordered.{le}
use Rattle.ring_solver.proofs.Solver.{ring₂, ring_by}
use Rattle.ring_solver.proofs.Certificate.{le₁, le₂, le₃, le₅, moved, mul_mono}
use Rattle.rat_core.specs.Fraction.{ℚ, ◌÷◌, whole, ◌+ℚ◌, ◌-ℚ◌, ◌*ℚ◌, neg_ℚ, ◌≤ℚ◌, abs, at_most}
use Rattle.rat_core.proofs.Laws.{ℚ_ring, ℚ_ordered, le_trans, le_refl, le_or_lt, lt_le, lt_not_le, mul_nonneg}
use Rattle.rat_core.proofs.Order.{le_abs, cancel_positive, le_lt_trans, over_nonneg}
use Rattle.rat_core.proofs.Sizes.{abs_nonneg, abs-square}
use Rattle.trig_meaning.specs.FromSomeOn.{FromSomeOn}
use Rattle.trig_meaning.specs.Laws.{QuarterSumsAt}
use Rattle.trig_meaning.specs.PartialSums.{pi_sum, sine_sum}
use Rattle.trig_meaning.specs.Turn.{sine_of_turn}
use Rattle.trig_meaning.proofs.Addition.{adds}
use Rattle.trig_meaning.proofs.FromSomeOnLaws.{onward_both}
use Rattle.trig_meaning.proofs.Pieces.{half_turn_negates_lem}
use Rattle.trig_meaning.proofs.Quarters.{at_quarter, half_twice}
use Rattle.trig_meaning.proofs.QuarterSums.{quarter_sums_lem}

abbrev half : ℚ
half = pos 1 ÷ 2

-- what the squares add up to at most
abbrev squares : ℚ
squares = pos 289 ÷ 288

-- what the sizes add up to at most
abbrev pub sizes : ℚ
sizes = pos 17 ÷ 12

square_nonneg : (x : ℚ) → whole 0 ≤ℚ x *ℚ x
square_nonneg x = moved ℚ_ordered refl (abs-square x) (mul_nonneg (abs x) (abs x) (abs_nonneg x) (abs_nonneg x))

-- what is not less than 0 and has a square of at most b² is at most b
root_le : (x b : ℚ) → whole 0 ≤ℚ b → x *ℚ x ≤ℚ b *ℚ b → x ≤ℚ b
root_le x b low h =
    le_or_lt x b (λ k. k)
    (λ l. lt_not_le b x l
    (cancel_positive x x b (le_lt_trans (whole 0) b x low l)
    (le_trans (x *ℚ x) (b *ℚ b) (x *ℚ b) h
    (moved ℚ_ordered refl (ring₂ ℚ_ring (λ x b. b ⊠ x) (λ x b. x ⊠ b) refl x b) (mul_mono ℚ_ordered b b x low (lt_le b x l))))))

twice_squares : whole 2 *ℚ squares ≤ℚ sizes *ℚ sizes
unfolding at_most ◌÷◌ ◌*ℚ◌
twice_squares = record { le = tt }

room : whole 1 +ℚ pos 1 ÷ 2 ^ 72 +ℚ pos 1 ÷ 2 ^ 66 ≤ℚ squares
unfolding at_most ◌÷◌ ◌+ℚ◌
room = record { le = tt }

module _ (n : ℕ) (late : 20 ≤ n) (quarter : QuarterSumsAt n) where
  abbrev s : ℚ → ℚ
  s t = sine_of_turn n t

  half_low : neg_ℚ half ≤ℚ half
  half_low = le₁ ℚ_ordered (λ q. opp q) (λ q. q) (λ q. le (num 0) q ∷ le (num 0) q ∷ []) refl half (over_nonneg 1 2, (over_nonneg 1 2, tt))

  -- the sine of a quarter turn
  top : s half ≤ℚ whole 1 +ℚ pos 1 ÷ 2 ^ 72
  top =
      let z = sine_sum n (pi_sum n *ℚ half) in
      moved ℚ_ordered (sym (at_quarter n late half half_low (le_refl half))) refl
      (le₂ ℚ_ordered (λ z e. z) (λ z e. num 1 ⊞ e) (λ z e. le (z ⊟ num 1) e ∷ []) refl z (pos 1 ÷ 2 ^ 72)
      (le_trans (z -ℚ whole 1) (abs (z -ℚ whole 1)) (pos 1 ÷ 2 ^ 72) (le_abs (z -ℚ whole 1)) quarter.sine, tt))

  -- the squares of the cosine and the sine
  squares_add : (t : ℚ) → s (t +ℚ half) *ℚ s (t +ℚ half) +ℚ s t *ℚ s t ≤ℚ squares
  squares_add t =
      let c = s (t +ℚ half) in
      let e = pos 1 ÷ 2 ^ 66 in
      let further : s (t +ℚ half +ℚ half) ≡ neg_ℚ (s t) =
      ap s (ring_by ℚ_ring (t ∷ half ∷ []) (var 0 ⊞ var 1 ⊞ var 1) (var 0 ⊞ num 1) (num 1) (var 1 ⊠ num 2) (num 1) refl half_twice)
      ∙ half_turn_negates_lem n t in
      let back : s (t +ℚ half -ℚ t) ≡ s half = ap s (ring₂ ℚ_ring (λ t q. t ⊞ q ⊟ t) (λ t q. q) refl t half) in
      let law : c *ℚ c -ℚ s t *ℚ neg_ℚ (s t) -ℚ s half ≤ℚ e =
      moved ℚ_ordered (ap₂ (λ u v. c *ℚ c -ℚ s t *ℚ u -ℚ v) further back) refl
      (le_trans _ _ e (le_abs (c *ℚ c -ℚ s t *ℚ s (t +ℚ half +ℚ half) -ℚ s (t +ℚ half -ℚ t))) (adds n late t (t +ℚ half))) in
      le_trans (c *ℚ c +ℚ s t *ℚ s t) (whole 1 +ℚ pos 1 ÷ 2 ^ 72 +ℚ e) squares
      (le₅ ℚ_ordered (λ c s h e f. c ⊠ c ⊞ s ⊠ s) (λ c s h e f. num 1 ⊞ f ⊞ e)
      (λ c s h e f. le (c ⊠ c ⊟ s ⊠ opp s ⊟ h) e ∷ le h (num 1 ⊞ f) ∷ []) refl c (s t) (s half) e (pos 1 ÷ 2 ^ 72) (law, (top, tt)))
      room

  -- their sizes
  pub sizes_add : (t : ℚ) → abs (s (t +ℚ half)) +ℚ abs (s t) ≤ℚ sizes
  sizes_add t =
      let a = abs (s (t +ℚ half)) in
      let b = abs (s t) in
      let both : a *ℚ a +ℚ b *ℚ b ≤ℚ squares =
      moved ℚ_ordered (sym (ap₂ ◌+ℚ◌ (abs-square (s (t +ℚ half))) (abs-square (s t)))) refl (squares_add t) in
      root_le (a +ℚ b) sizes (over_nonneg 17 12)
      (le_trans ((a +ℚ b) *ℚ (a +ℚ b)) (whole 2 *ℚ squares) (sizes *ℚ sizes)
      (le₃ ℚ_ordered (λ a b k. (a ⊞ b) ⊠ (a ⊞ b)) (λ a b k. num 2 ⊠ k)
      (λ a b k. le (a ⊠ a ⊞ b ⊠ b) k ∷ le (a ⊠ a ⊞ b ⊠ b) k ∷ le (num 0) ((a ⊟ b) ⊠ (a ⊟ b)) ∷ []) refl a b squares
      (both, (both, (square_nonneg (a -ℚ b), tt))))
      twice_squares)

-- from some n on, of all turns alike
pub circle : FromSomeOn (λ n. (t : ℚ) → abs (sine_of_turn n (t +ℚ pos 1 ÷ 2)) +ℚ abs (sine_of_turn n t) ≤ℚ sizes)
circle = onward_both (λ n late quarter t. sizes_add n late quarter t) (20, λ n late. late) quarter_sums_lem
