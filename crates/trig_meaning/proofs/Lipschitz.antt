-- The approximation of sin(pi·t) changes by at most pi times as much as t: on each quarter of the turn, then on the
-- whole turn, and then between any two fractions.
use Rattle.std.proofs.Common.{◌≡◌, refl, sym, ap, ap₂, ◌∙◌, subst, subst₂, ℕ, ◌≤◌, ℤ, pos, ◌+ℤ◌, ◌<ℤ◌, [], ◌∷◌, arith}
use Rattle.std.proofs.lemmas.Int.{ints}
use Rattle.ring_solver.specs.Expression.{var, num, ◌⊞◌, ◌⊟◌, ◌⊠◌, opp}
use Rattle.ring_solver.specs.Ordered.{le, times, same}
use Rattle.ring_solver.proofs.Solver.{ring₁, ring₂, ring₃}
use Rattle.ring_solver.proofs.Certificate.{le₁, le₂, le₄, le₅, certified, moved, mul_mono}
use Rattle.rat_core.specs.Fraction.{ℚ, ◌÷◌, whole, ◌+ℚ◌, ◌-ℚ◌, ◌*ℚ◌, neg_ℚ, ◌≤ℚ◌, ◌<ℚ◌, abs, floor, wrapped}
use Rattle.rat_core.proofs.Laws.{ℚ_ring, ℚ_ordered, int-add, le_refl, le_trans, le_or_lt, lt_le, lt_not_le, mul_nonneg}
use Rattle.rat_core.proofs.Order.{int_le, int_lt_back, whole_nonneg, le_abs, neg_le_abs}
use Rattle.rat_core.proofs.Sizes.{abs_swap, abs_by_way}
use Rattle.rat_core.proofs.Wrapped.{wrapped_low, wrapped_high}
use Rattle.trig_meaning.specs.PartialSums.{pi_sum, sine_sum}
use Rattle.trig_meaning.specs.Turn.{sine_within_turn, sine_of_turn}
use Rattle.trig_meaning.specs.Laws.{SineIsLipschitz}
use Rattle.trig_meaning.proofs.PiSums.{pi_sum_nonneg, quarter_small}
use Rattle.trig_meaning.proofs.Pieces.{half_apart, on_first, on_second, sine_within_turn-mirrored, sine_at_zero}
use Rattle.trig_meaning.proofs.SteepSums.{sine_sum_steep}

-- of two whole numbers one is greater by at least 1, or neither is greater
apart : {P : Type 0} (a b : ℤ) → (a ÷ 1 +ℚ whole 1 ≤ℚ b ÷ 1 → P) → (a ÷ 1 ≤ℚ b ÷ 1 → b ÷ 1 ≤ℚ a ÷ 1 → P) → (b ÷ 1 +ℚ whole 1 ≤ℚ a ÷ 1 → P) → P
apart a b below level above = le_or_lt (a ÷ 1) (b ÷ 1) (λ h. le_or_lt (b ÷ 1) (a ÷ 1) (level h) (λ l. below (next a b l))) (λ l. above (next b a l))
  where
    next : (a b : ℤ) → a ÷ 1 <ℚ b ÷ 1 → a ÷ 1 +ℚ whole 1 ≤ℚ b ÷ 1
    next a b l =
        let less : a <ℤ b = int_lt_back a b l in
        moved ℚ_ordered (int-add a (pos 1)) refl (int_le (a +ℤ pos 1) b (omega (arith, ints)))

module _ (n : ℕ) (late : 16 ≤ n) where
  -- from x to y, f changes by at most pi·(y − x)
  abbrev IsSteep : (ℚ → ℚ) → ℚ → ℚ → Type 0
  IsSteep f x y = abs (f y -ℚ f x) ≤ℚ pi_sum n *ℚ (y -ℚ x)

  pi_mono : (x y : ℚ) → x ≤ℚ y → pi_sum n *ℚ x ≤ℚ pi_sum n *ℚ y
  pi_mono x y h = mul_mono ℚ_ordered (pi_sum n) x y (pi_sum_nonneg n late) h

  joined : (f : ℚ → ℚ) (x y z : ℚ) → IsSteep f x y → IsSteep f y z → IsSteep f x z
  joined f x y z h k =
      le_trans (abs (f z -ℚ f x)) (abs (f y -ℚ f x) +ℚ abs (f z -ℚ f y)) (pi_sum n *ℚ (z -ℚ x)) (abs_by_way (f x) (f y) (f z))
      (certified ℚ_ordered (abs (f y -ℚ f x) ∷ abs (f z -ℚ f y) ∷ pi_sum n ∷ x ∷ y ∷ z ∷ []) (var 0 ⊞ var 1) (var 2 ⊠ (var 5 ⊟ var 3))
      (le (var 0) (var 2 ⊠ (var 4 ⊟ var 3)) ∷ le (var 1) (var 2 ⊠ (var 5 ⊟ var 4)) ∷ []) refl (h, (k, tt)))

  -- the sine sum at multiples of pi up to a quarter of the turn
  sum_steep : (x y : ℚ) → whole 0 ≤ℚ x → x ≤ℚ y → y ≤ℚ pos 1 ÷ 2 → IsSteep (λ t. sine_sum n (pi_sum n *ℚ t)) x y
  sum_steep x y low h high =
      moved ℚ_ordered refl (ring₃ ℚ_ring (λ p x y. p ⊠ y ⊟ p ⊠ x) (λ p x y. p ⊠ (y ⊟ x)) refl (pi_sum n) x y)
      (sine_sum_steep (pi_sum n *ℚ y) (pi_sum n *ℚ x) (mul_nonneg (pi_sum n) x (pi_sum_nonneg n late) low) (pi_mono x y h)
      (quarter_small n late y (le_trans (whole 0) x y low h) high) n)

  first_steep : (x y : ℚ) → whole 0 ≤ℚ x → x ≤ℚ y → y ≤ℚ pos 1 ÷ 2 → IsSteep (sine_within_turn n) x y
  first_steep x y low h high =
      subst₂ (λ s t. abs (s -ℚ t) ≤ℚ pi_sum n *ℚ (y -ℚ x)) (sym (on_first n y high)) (sym (on_first n x (le_trans x y (pos 1 ÷ 2) h high)))
      (sum_steep x y low h high)

  second_steep : (x y : ℚ) → pos 1 ÷ 2 ≤ℚ x → x ≤ℚ y → y ≤ℚ whole 1 → IsSteep (sine_within_turn n) x y
  second_steep x y low h high =
      let at : ℚ → ℚ = λ t. sine_sum n (pi_sum n *ℚ t) in
      subst₂ (λ s t. abs (s -ℚ t) ≤ℚ pi_sum n *ℚ (y -ℚ x)) (sym (on_second n y (le_trans (pos 1 ÷ 2) x y low h) high))
      (sym (on_second n x low (le_trans x y (whole 1) h high)))
      (moved ℚ_ordered (abs_swap (at (whole 1 -ℚ x)) (at (whole 1 -ℚ y)))
      (ap (λ t. pi_sum n *ℚ t) (ring₂ ℚ_ring (λ x y. (num 1 ⊟ x) ⊟ (num 1 ⊟ y)) (λ x y. y ⊟ x) refl x y))
      (sum_steep (whole 1 -ℚ y) (whole 1 -ℚ x)
      (le₁ ℚ_ordered (λ y. num 0) (λ y. num 1 ⊟ y) (λ y. le y (num 1) ∷ []) refl y (high, tt))
      (le₂ ℚ_ordered (λ x y. num 1 ⊟ y) (λ x y. num 1 ⊟ x) (λ x y. le x y ∷ []) refl x y (h, tt))
      (le₂ ℚ_ordered (λ x s. num 1 ⊟ x) (λ x s. s) (λ x s. le s x ∷ same (num 1) (num 1 ⊟ s) s ∷ []) refl x (pos 1 ÷ 2) (low, (sym half_apart, tt)))))

  half_steep : (x y : ℚ) → whole 0 ≤ℚ x → x ≤ℚ y → y ≤ℚ whole 1 → IsSteep (sine_within_turn n) x y
  half_steep x y low h high =
      le_or_lt y (pos 1 ÷ 2) (λ k. first_steep x y low h k)
      (λ k. le_or_lt (pos 1 ÷ 2) x (λ l. second_steep x y l h high)
      (λ l. joined (sine_within_turn n) x (pos 1 ÷ 2) y (first_steep x (pos 1 ÷ 2) low (lt_le x (pos 1 ÷ 2) l) (le_refl (pos 1 ÷ 2)))
      (second_steep (pos 1 ÷ 2) y (le_refl (pos 1 ÷ 2)) (lt_le (pos 1 ÷ 2) y k) high)))

  -- the second half of the turn mirrors the first
  mirrored_steep : (x y : ℚ) → whole 1 ≤ℚ x → x ≤ℚ y → y ≤ℚ whole 2 → IsSteep (sine_within_turn n) x y
  mirrored_steep x y low h high =
      let S = sine_within_turn n in
      let mirror : (t : ℚ) → S t ≡ neg_ℚ (S (whole 2 -ℚ t)) = λ t. ap S (ring₁ ℚ_ring (λ t. t) (λ t. num 2 ⊟ (num 2 ⊟ t)) refl t)
      ∙ sine_within_turn-mirrored n (whole 2 -ℚ t) in
      moved ℚ_ordered
      (ap abs (ring₂ ℚ_ring (λ s t. s ⊟ t) (λ s t. opp t ⊟ opp s) refl (S (whole 2 -ℚ x)) (S (whole 2 -ℚ y)) ∙ ap₂ ◌-ℚ◌ (sym (mirror y)) (sym (mirror x))))
      (ap (λ t. pi_sum n *ℚ t) (ring₂ ℚ_ring (λ x y. (num 2 ⊟ x) ⊟ (num 2 ⊟ y)) (λ x y. y ⊟ x) refl x y))
      (half_steep (whole 2 -ℚ y) (whole 2 -ℚ x)
      (le₁ ℚ_ordered (λ y. num 0) (λ y. num 2 ⊟ y) (λ y. le y (num 2) ∷ []) refl y (high, tt))
      (le₂ ℚ_ordered (λ x y. num 2 ⊟ y) (λ x y. num 2 ⊟ x) (λ x y. le x y ∷ []) refl x y (h, tt))
      (le₁ ℚ_ordered (λ x. num 2 ⊟ x) (λ x. num 1) (λ x. le (num 1) x ∷ []) refl x (low, tt)))

  turn_steep : (x y : ℚ) → whole 0 ≤ℚ x → x ≤ℚ y → y ≤ℚ whole 2 → IsSteep (sine_within_turn n) x y
  turn_steep x y low h high =
      le_or_lt y (whole 1) (λ k. half_steep x y low h k)
      (λ k. le_or_lt (whole 1) x (λ l. mirrored_steep x y l h high)
      (λ l. joined (sine_within_turn n) x (whole 1) y (half_steep x (whole 1) low (lt_le x (whole 1) l) (le_refl (whole 1)))
      (mirrored_steep (whole 1) y (le_refl (whole 1)) (lt_le (whole 1) y k) high)))

  -- the end of the turn is its start
  turn_closes : sine_within_turn n (whole 2) ≡ sine_within_turn n (whole 0)
  turn_closes =
      ap (sine_within_turn n) (ring₁ ℚ_ring (λ t. num 2) (λ t. num 2 ⊟ num 0) refl (whole 0)) ∙ sine_within_turn-mirrored n (whole 0) ∙ sym (sine_at_zero n)

  -- from x up to the end of the turn, and from its start up to y
  around_steep : (x y : ℚ) → whole 0 ≤ℚ x → x ≤ℚ whole 2 → whole 0 ≤ℚ y → y ≤ℚ whole 2
      → abs (sine_within_turn n y -ℚ sine_within_turn n x) ≤ℚ pi_sum n *ℚ (whole 2 +ℚ y -ℚ x)
  around_steep x y x_low x_high y_low y_high =
      let S = sine_within_turn n in
      let up = turn_steep x (whole 2) x_low x_high (le_refl (whole 2)) in
      let on = subst (λ s. abs (S y -ℚ s) ≤ℚ pi_sum n *ℚ (y -ℚ whole 0)) (sym turn_closes) (turn_steep (whole 0) y (le_refl (whole 0)) y_low y_high) in
      le_trans (abs (S y -ℚ S x)) (abs (S (whole 2) -ℚ S x) +ℚ abs (S y -ℚ S (whole 2))) (pi_sum n *ℚ (whole 2 +ℚ y -ℚ x))
      (abs_by_way (S x) (S (whole 2)) (S y))
      (le₅ ℚ_ordered (λ u v p x y. u ⊞ v) (λ u v p x y. p ⊠ (num 2 ⊞ y ⊟ x)) (λ u v p x y. le u (p ⊠ (num 2 ⊟ x)) ∷ le v (p ⊠ (y ⊟ num 0)) ∷ []) refl
      (abs (S (whole 2) -ℚ S x)) (abs (S y -ℚ S (whole 2))) (pi_sum n) x y (up, (on, tt)))

  -- two fractions with the even whole numbers that bring them into the turn
  shifted_steep : (t u : ℚ) (a b : ℤ) → t ≤ℚ u → whole 0 ≤ℚ t -ℚ whole 2 *ℚ (a ÷ 1) → t -ℚ whole 2 *ℚ (a ÷ 1) ≤ℚ whole 2
      → whole 0 ≤ℚ u -ℚ whole 2 *ℚ (b ÷ 1) → u -ℚ whole 2 *ℚ (b ÷ 1) <ℚ whole 2
      → abs (sine_within_turn n (u -ℚ whole 2 *ℚ (b ÷ 1)) -ℚ sine_within_turn n (t -ℚ whole 2 *ℚ (a ÷ 1))) ≤ℚ pi_sum n *ℚ (u -ℚ t)
  shifted_steep t u a b h t_low t_high u_low u_high =
      let w = t -ℚ whole 2 *ℚ (a ÷ 1) in
      let x = u -ℚ whole 2 *ℚ (b ÷ 1) in
      let distance = abs (sine_within_turn n x -ℚ sine_within_turn n w) in
      let u_end = lt_le x (whole 2) u_high in
      apart a b
      (λ below. le_trans distance (pi_sum n *ℚ (whole 2 +ℚ x -ℚ w)) (pi_sum n *ℚ (u -ℚ t)) (around_steep w x t_low t_high u_low u_end)
      (pi_mono (whole 2 +ℚ x -ℚ w) (u -ℚ t)
      (le₄ ℚ_ordered (λ t u a b. num 2 ⊞ (u ⊟ num 2 ⊠ b) ⊟ (t ⊟ num 2 ⊠ a)) (λ t u a b. u ⊟ t) (λ t u a b. times (num 2) (a ⊞ num 1) b ∷ []) refl t u
      (a ÷ 1) (b ÷ 1) (whole_nonneg 2, below, tt))))
      (λ up down. le_trans distance (pi_sum n *ℚ (x -ℚ w)) (pi_sum n *ℚ (u -ℚ t))
      (turn_steep w x t_low
      (le₄ ℚ_ordered (λ t u a b. t ⊟ num 2 ⊠ a) (λ t u a b. u ⊟ num 2 ⊠ b) (λ t u a b. le t u ∷ times (num 2) b a ∷ []) refl t u (a ÷ 1) (b ÷ 1)
      (h, (whole_nonneg 2, down, tt)))
      u_end)
      (pi_mono (x -ℚ w) (u -ℚ t)
      (le₄ ℚ_ordered (λ t u a b. (u ⊟ num 2 ⊠ b) ⊟ (t ⊟ num 2 ⊠ a)) (λ t u a b. u ⊟ t) (λ t u a b. times (num 2) a b ∷ []) refl t u (a ÷ 1) (b ÷ 1)
      (whole_nonneg 2, up, tt))))
      (λ above. lt_not_le x (whole 2) u_high
      (le₄ ℚ_ordered (λ t u a b. num 2) (λ t u a b. u ⊟ num 2 ⊠ b) (λ t u a b. le t u ∷ le (num 0) (t ⊟ num 2 ⊠ a) ∷ times (num 2) (b ⊞ num 1) a ∷ []) refl
      t u (a ÷ 1) (b ÷ 1) (h, (t_low, (whole_nonneg 2, above, tt)))))

  ordered_steep : (t u : ℚ) → t ≤ℚ u → IsSteep (sine_of_turn n) t u
  unfolding sine_of_turn
  ordered_steep t u h =
      shifted_steep t u (floor (t *ℚ (pos 1 ÷ 2))) (floor (u *ℚ (pos 1 ÷ 2))) h (wrapped_low t) (lt_le (wrapped t) (whole 2) (wrapped_high t))
      (wrapped_low u) (wrapped_high u)

  sine_steep : (t u : ℚ) → abs (sine_of_turn n t -ℚ sine_of_turn n u) ≤ℚ pi_sum n *ℚ abs (t -ℚ u)
  sine_steep t u =
      let distance = abs (sine_of_turn n t -ℚ sine_of_turn n u) in
      le_or_lt t u
      (λ h. le_trans distance (pi_sum n *ℚ (u -ℚ t)) (pi_sum n *ℚ abs (t -ℚ u))
      (moved ℚ_ordered (abs_swap (sine_of_turn n u) (sine_of_turn n t)) refl (ordered_steep t u h))
      (pi_mono (u -ℚ t) (abs (t -ℚ u)) (moved ℚ_ordered (ring₂ ℚ_ring (λ t u. opp (t ⊟ u)) (λ t u. u ⊟ t) refl t u) refl (neg_le_abs (t -ℚ u)))))
      (λ l. le_trans distance (pi_sum n *ℚ (t -ℚ u)) (pi_sum n *ℚ abs (t -ℚ u)) (ordered_steep u t (lt_le u t l))
      (pi_mono (t -ℚ u) (abs (t -ℚ u)) (le_abs (t -ℚ u))))

pub sine_is_lipschitz_lem : SineIsLipschitz
sine_is_lipschitz_lem = (16, sine_steep)
