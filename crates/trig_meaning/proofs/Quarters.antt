-- The approximation of sin(pi·t) on the two quarters of the turn round 0 and round 1/2: there it is the sine sum, and near the
-- cosine sum.
use Rattle.std.proofs.Common.{◌≡◌, refl, sym, ap, ap₂, ◌∙◌, subst, ℕ, ◌^◌, ◌≤◌, pos, [], ◌∷◌, arith, lit<}
use Rattle.ring_solver.specs.Expression.{var, num, ◌⊞◌, ◌⊟◌, ◌⊠◌, opp}
use Rattle.ring_solver.specs.Ordered.{le, times, same}
use Rattle.ring_solver.proofs.Solver.{ring₁, ring₂, ring₃, ring₅, ring_by}
use Rattle.ring_solver.proofs.Certificate.{le₁, le₂, le₃, le₅, moved}
use Rattle.rat_core.specs.Fraction.{ℚ, ◌÷◌, whole, ◌+ℚ◌, ◌-ℚ◌, ◌*ℚ◌, neg_ℚ, ◌≤ℚ◌, at_most, abs}
use Rattle.rat_core.proofs.Laws.{ℚ_ring, ℚ_ordered, over-mul, le_refl, le_trans, le_or_lt, lt_le, mul_nonneg}
use Rattle.rat_core.proofs.Order.{le_lt_trans, whole_lt, whole_nonneg, over_nonneg, abs_le, abs-neg, abs-mul, abs_of_nonneg}
use Rattle.rat_core.proofs.Sizes.{negated_high, abs_nonneg, abs_swap, abs_by_way, abs_add_three, abs_product_le}
use Rattle.rat_core.proofs.Wrapped.{wrapped_is}
use Rattle.trig_meaning.specs.PartialSums.{pi_sum, sine_sum, cosine_sum}
use Rattle.trig_meaning.specs.Turn.{sine_within_turn, sine_of_turn}
use Rattle.trig_meaning.proofs.Odd.{sine_sum-neg, cosine_sum-neg}
use Rattle.trig_meaning.proofs.PiSums.{pi_sum_nonneg, quarter_small}
use Rattle.trig_meaning.proofs.Pieces.{on_first, on_second, sine_is_odd_lem}
use Rattle.trig_meaning.proofs.QuarterSums.{quarter_cosine, quarter_sine}
use Rattle.trig_meaning.proofs.SumAddition.{sine_addition}
use Rattle.trig_meaning.proofs.SumSizes.{cosine_sum_small, sine_sum_small}

-- what the sums at half of pi are near to, in this unit
abbrev pub unit : ℚ
unit = pos 1 ÷ 2 ^ 72

pub unit_nonneg : whole 0 ≤ℚ unit
unit_nonneg = over_nonneg 1 (2 ^ 72)

pub rest_in_unit : pos 1 ÷ 2 ^ 90 ≤ℚ unit
unfolding at_most ◌÷◌
rest_in_unit = record { le = tt }

pub eight_fifths_at_most_two : pos 8 ÷ 5 ≤ℚ whole 2
unfolding at_most ◌÷◌
eight_fifths_at_most_two = record { le = tt }

-- half of 1, twice
pub half_twice : (pos 1 ÷ 2) *ℚ whole 2 ≡ whole 1
half_twice = over-mul (pos 1) 2 (lit< tt)

module _ (n : ℕ) (late : 20 ≤ n) where
  abbrev p : ℚ
  p = pi_sum n

  abbrev q : ℚ
  q = pos 1 ÷ 2

  abbrev P : ℚ → ℚ
  P z = sine_sum n z

  abbrev C : ℚ → ℚ
  C z = cosine_sum n z

  abbrev s : ℚ → ℚ
  s t = sine_of_turn n t

  after_16 : 16 ≤ n
  after_16 = omega (arith, late)

  -- ---- the sine sum

  turn_at : (v : ℚ) → whole 0 ≤ℚ v → v ≤ℚ whole 1 → s v ≡ sine_within_turn n v
  unfolding sine_of_turn
  turn_at v low high =
      ap (sine_within_turn n)
      (wrapped_is v v (pos 0) (ring₁ ℚ_ring (λ v. v ⊟ num 2 ⊠ num 0) (λ v. v) refl v) low (le_lt_trans v (whole 1) (whole 2) high (whole_lt 1 2 (lit< tt))))

  half_at_most_one : q ≤ℚ whole 1
  half_at_most_one = le₁ ℚ_ordered (λ q. q) (λ q. num 1) (λ q. le (num 0) q ∷ same (num 1) (q ⊠ num 2) (num 1) ∷ []) refl q (over_nonneg 1 2, (half_twice, tt))

  at_first : (v : ℚ) → whole 0 ≤ℚ v → v ≤ℚ q → s v ≡ P (p *ℚ v)
  at_first v low high = turn_at v low (le_trans v q (whole 1) high half_at_most_one) ∙ on_first n v high

  at_second : (v : ℚ) → q ≤ℚ v → v ≤ℚ whole 1 → s v ≡ P (p *ℚ (whole 1 -ℚ v))
  at_second v low high = turn_at v (le_trans (whole 0) q v (over_nonneg 1 2) low) high ∙ on_second n v low high

  pub at_quarter : (v : ℚ) → neg_ℚ q ≤ℚ v → v ≤ℚ q → s v ≡ P (p *ℚ v)
  at_quarter v low high =
      le_or_lt (whole 0) v (λ h. at_first v h high)
      (λ l. ap s (ring₁ ℚ_ring (λ v. v) (λ v. opp (opp v)) refl v) ∙ sine_is_odd_lem n (neg_ℚ v)
      ∙ ap neg_ℚ (at_first (neg_ℚ v) (le₁ ℚ_ordered (λ v. num 0) (λ v. opp v) (λ v. le v (num 0) ∷ []) refl v (lt_le v (whole 0) l, tt)) (negated_high v q low))
      ∙ sym (sine_sum-neg n (p *ℚ neg_ℚ v)) ∙ ap P (ring₂ ℚ_ring (λ p v. opp (p ⊠ opp v)) (λ p v. p ⊠ v) refl p v))

  -- ---- the cosine sum

  -- pi times a fraction from −1/2 to 1/2
  pub quarter_size : (v : ℚ) → neg_ℚ q ≤ℚ v → v ≤ℚ q → abs (p *ℚ v) ≤ℚ pos 8 ÷ 5
  quarter_size v low high =
      moved ℚ_ordered (sym (abs-mul p v ∙ ap (λ t. t *ℚ abs v) (abs_of_nonneg p (pi_sum_nonneg n after_16)))) refl
      (quarter_small n after_16 (abs v) (abs_nonneg v) (abs_le v q high (negated_high v q low)))

  half_within : neg_ℚ q ≤ℚ q
  half_within = le₁ ℚ_ordered (λ q. opp q) (λ q. q) (λ q. le (num 0) q ∷ le (num 0) q ∷ []) refl q (over_nonneg 1 2, (over_nonneg 1 2, tt))

  pub near_cosine : (y : ℚ) → abs y ≤ℚ pos 8 ÷ 5 → abs (P (p *ℚ q +ℚ y) -ℚ C y) ≤ℚ whole 4 *ℚ unit
  near_cosine y h =
      let z = p *ℚ q in
      let e = unit in
      let g = pos 8 ÷ 5 in
      let x₁ = P z *ℚ C y +ℚ C z *ℚ P y -ℚ P (z +ℚ y) in
      let x₂ = (P z -ℚ whole 1) *ℚ C y in
      let x₃ = C z *ℚ P y in
      let first : abs (neg_ℚ x₁) ≤ℚ e =
      moved ℚ_ordered (sym (abs-neg x₁)) refl (le_trans (abs x₁) (pos 1 ÷ 2 ^ 90) e
      (sine_addition n late z y (quarter_size q half_within (le_refl q)) h) rest_in_unit) in
      le_trans (abs (P (z +ℚ y) -ℚ C y)) (abs (neg_ℚ x₁) +ℚ abs x₂ +ℚ abs x₃) (whole 4 *ℚ e)
      (moved ℚ_ordered
      (ap abs (ring₅ ℚ_ring (λ a b c d f. opp (a ⊠ b ⊞ c ⊠ d ⊟ f) ⊞ (a ⊟ num 1) ⊠ b ⊞ c ⊠ d) (λ a b c d f. f ⊟ b) refl (P z) (C y) (C z) (P y)
      (P (z +ℚ y)))) refl
      (abs_add_three (neg_ℚ x₁) x₂ x₃))
      (le₅ ℚ_ordered (λ a b c e g. a ⊞ b ⊞ c) (λ a b c e g. num 4 ⊠ e) (λ a b c e g. le a e ∷ le b (e ⊠ num 1) ∷ le c (e ⊠ g) ∷ times e g (num 2) ∷ []) refl
      (abs (neg_ℚ x₁)) (abs x₂) (abs x₃) e g (
        first,
        (
          abs_product_le (P z -ℚ whole 1) (C y) e (whole 1) (quarter_sine n after_16) (cosine_sum_small n y h),
          (abs_product_le (C z) (P y) e g (quarter_cosine n after_16) (sine_sum_small n y h), (unit_nonneg, eight_fifths_at_most_two, tt)),
        ),
      ))

  -- a quarter of a turn before it
  near_cosine_before : (y : ℚ) → abs y ≤ℚ pos 8 ÷ 5 → abs (P (p *ℚ q -ℚ y) -ℚ C y) ≤ℚ whole 4 *ℚ unit
  near_cosine_before y h =
      subst (λ c. abs (P (p *ℚ q -ℚ y) -ℚ c) ≤ℚ whole 4 *ℚ unit) (cosine_sum-neg n y) (near_cosine (neg_ℚ y) (moved ℚ_ordered (sym (abs-neg y)) refl h))

  -- 1 less t + 1/2
  half_less : (t : ℚ) → whole 1 -ℚ (t +ℚ q) ≡ q -ℚ t
  half_less t = ring_by ℚ_ring (t ∷ q ∷ []) (num 1 ⊟ (var 0 ⊞ var 1)) (var 1 ⊟ var 0) (num 1) (num 1) (var 1 ⊠ num 2) refl (sym half_twice)

  -- the sine of a quarter of a turn more
  pub next_quarter : (t : ℚ) → neg_ℚ q ≤ℚ t → t ≤ℚ q → abs (s (t +ℚ q) -ℚ C (p *ℚ t)) ≤ℚ whole 4 *ℚ unit
  next_quarter t low high =
      let y = p *ℚ t in
      let small = quarter_size t low high in
      le_or_lt (whole 0) t
      (λ h. let value : s (t +ℚ q) ≡ P (p *ℚ q -ℚ y) =
      at_second (t +ℚ q) (le₂ ℚ_ordered (λ t q. q) (λ t q. t ⊞ q) (λ t q. le (num 0) t ∷ []) refl t q (h, tt))
      (le₂ ℚ_ordered (λ t q. t ⊞ q) (λ t q. num 1) (λ t q. le t q ∷ same (num 1) (q ⊠ num 2) (num 1) ∷ []) refl t q (high, (half_twice, tt)))
      ∙ ap (λ v. P (p *ℚ v)) (half_less t) ∙ ap P (ring₃ ℚ_ring (λ p q t. p ⊠ (q ⊟ t)) (λ p q t. p ⊠ q ⊟ p ⊠ t) refl p q t) in
      moved ℚ_ordered (ap (λ v. abs (v -ℚ C y)) (sym value)) refl (near_cosine_before y small))
      (λ l. let value : s (t +ℚ q) ≡ P (p *ℚ q +ℚ y) =
      at_first (t +ℚ q) (le₂ ℚ_ordered (λ t q. num 0) (λ t q. t ⊞ q) (λ t q. le (opp q) t ∷ []) refl t q (low, tt))
      (le₂ ℚ_ordered (λ t q. t ⊞ q) (λ t q. q) (λ t q. le t (num 0) ∷ []) refl t q (lt_le t (whole 0) l, tt))
      ∙ ap P (ring₃ ℚ_ring (λ p q t. p ⊠ (t ⊞ q)) (λ p q t. p ⊠ q ⊞ p ⊠ t) refl p q t) in
      moved ℚ_ordered (ap (λ v. abs (v -ℚ C y)) (sym value)) refl (near_cosine y small))

  -- ---- the sine sum over two quarters each way

  sum_up : (v : ℚ) → whole 0 ≤ℚ v → v ≤ℚ whole 1 → abs (P (p *ℚ v) -ℚ s v) ≤ℚ whole 8 *ℚ unit
  sum_up v low high =
      le_or_lt v q
      (λ h. moved ℚ_ordered (ap (λ t. abs (P (p *ℚ v) -ℚ t)) (sym (at_first v low h))) refl (nothing (P (p *ℚ v))))
      (λ l. let y = p *ℚ (v -ℚ q) in
      let small = quarter_size (v -ℚ q)
      (le₂ ℚ_ordered (λ v q. opp q) (λ v q. v ⊟ q) (λ v q. le (num 0) v ∷ []) refl v q (low, tt))
      (le₂ ℚ_ordered (λ v q. v ⊟ q) (λ v q. q) (λ v q. le v (num 1) ∷ same (num 1) (num 1) (q ⊠ num 2) ∷ []) refl v q (high, (sym half_twice, tt))) in
      let value : s v ≡ P (p *ℚ q -ℚ y) =
      at_second v (lt_le q v l) high
      ∙ ap P (ring_by ℚ_ring (p ∷ v ∷ q ∷ []) (var 0 ⊠ (num 1 ⊟ var 1)) (var 0 ⊠ var 2 ⊟ var 0 ⊠ (var 1 ⊟ var 2)) (var 0) (num 1)
      (var 2 ⊠ num 2) refl (sym half_twice)) in
      let other : P (p *ℚ q +ℚ y) ≡ P (p *ℚ v) = ap P (ring₃ ℚ_ring (λ p v q. p ⊠ q ⊞ p ⊠ (v ⊟ q)) (λ p v q. p ⊠ v) refl p v q) in
      moved ℚ_ordered (ap₂ (λ a b. abs (a -ℚ b)) other (sym value)) refl
      (le_trans _ (abs (C y -ℚ P (p *ℚ q -ℚ y)) +ℚ abs (P (p *ℚ q +ℚ y) -ℚ C y)) _ (abs_by_way (P (p *ℚ q -ℚ y)) (C y) (P (p *ℚ q +ℚ y)))
      (le₃ ℚ_ordered (λ a b e. a ⊞ b) (λ a b e. num 8 ⊠ e) (λ a b e. le a (num 4 ⊠ e) ∷ le b (num 4 ⊠ e) ∷ []) refl
      (abs (C y -ℚ P (p *ℚ q -ℚ y))) (abs (P (p *ℚ q +ℚ y) -ℚ C y)) unit
      (moved ℚ_ordered (abs_swap (P (p *ℚ q -ℚ y)) (C y)) refl (near_cosine_before y small), (near_cosine y small, tt)))))
    where
      nothing : (x : ℚ) → abs (x -ℚ x) ≤ℚ whole 8 *ℚ unit
      nothing x =
          moved ℚ_ordered (sym (ap abs (ring₁ ℚ_ring (λ x. x ⊟ x) (λ x. num 0) refl x) ∙ abs_of_nonneg (whole 0) (le_refl (whole 0)))) refl
          (mul_nonneg (whole 8) unit (whole_nonneg 8) unit_nonneg)

  pub sum_at : (v : ℚ) → neg_ℚ (whole 1) ≤ℚ v → v ≤ℚ whole 1 → abs (P (p *ℚ v) -ℚ s v) ≤ℚ whole 8 *ℚ unit
  sum_at v low high =
      le_or_lt (whole 0) v (λ h. sum_up v h high)
      (λ l. let w = neg_ℚ v in
      let back : v ≡ neg_ℚ w = ring₁ ℚ_ring (λ v. v) (λ v. opp (opp v)) refl v in
      let sum : P (p *ℚ v) ≡ neg_ℚ (P (p *ℚ w)) = ap P (ring₂ ℚ_ring (λ p v. p ⊠ v) (λ p v. opp (p ⊠ opp v)) refl p v) ∙ sine_sum-neg n (p *ℚ w) in
      let value : s v ≡ neg_ℚ (s w) = ap s back ∙ sine_is_odd_lem n w in
      moved ℚ_ordered
      (sym (ap₂ (λ a b. abs (a -ℚ b)) sum value ∙ ap abs (ring₂ ℚ_ring (λ a b. opp a ⊟ opp b) (λ a b. opp (a ⊟ b)) refl (P (p *ℚ w)) (s w))
      ∙ abs-neg (P (p *ℚ w) -ℚ s w))) refl
      (sum_up w (le₁ ℚ_ordered (λ v. num 0) (λ v. opp v) (λ v. le v (num 0) ∷ []) refl v (lt_le v (whole 0) l, tt)) (negated_high v (whole 1) low)))
