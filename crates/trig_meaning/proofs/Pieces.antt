-- The four pieces: they agree where they meet, and each is the approximation on its closed quarter of the turn. The
-- approximation is odd, half a turn turns its sign, and whole turns keep it.
use mathlib.Core.Quot.{sound}
use Rattle.std.proofs.Common.{◌≡◌, refl, sym, ap, ◌∙◌, subst, ℕ, Bool, true, false, cond, not, T, pos, [], ◌∷◌}
use Rattle.ring_solver.specs.Expression.{num, ◌⊞◌, ◌⊟◌, ◌⊠◌, opp}
use Rattle.ring_solver.specs.Ordered.{le, same}
use Rattle.ring_solver.proofs.Solver.{ring₁}
use Rattle.ring_solver.proofs.Certificate.{le₁, le₃}
use Rattle.rat_core.specs.Fraction.{ℚ, ◌÷◌, whole, ◌+ℚ◌, ◌-ℚ◌, ◌*ℚ◌, neg_ℚ, at_most, ◌≤ℚ◌, ◌<ℚ◌, wrapped}
use Rattle.rat_core.proofs.Laws.{ℚ_ring, ℚ_ordered, le_trans, le_antisym, le_or_lt, lt_not_le, lt_le}
use Rattle.rat_core.proofs.Order.{difference_nonneg}
use Rattle.rat_core.proofs.Wrapped.{wrapped_low, wrapped_high, wrapped-turns, wrapped-half_low, wrapped-half_high, wrapped-neg_inside, wrapped-neg_zero}
use Rattle.trig_meaning.specs.PartialSums.{pi_sum, sine_sum}
use Rattle.trig_meaning.specs.Turn.{first_piece, second_piece, third_piece, fourth_piece, sine_within_turn, sine_of_turn}
use Rattle.trig_meaning.specs.Laws.{PiecesAgree, SineIsOdd, HalfTurnNegates, WholeTurnsKeep}
use Rattle.trig_meaning.proofs.Odd.{sine_sum-neg}

-- ---- halves

pub half_apart : pos 1 ÷ 2 ≡ whole 1 -ℚ pos 1 ÷ 2
unfolding ◌+ℚ◌ neg_ℚ ◌÷◌
half_apart = sound refl

three_halves_apart : pos 3 ÷ 2 -ℚ whole 1 ≡ whole 2 -ℚ pos 3 ÷ 2
unfolding ◌+ℚ◌ neg_ℚ ◌÷◌
three_halves_apart = sound refl

half_more : pos 1 ÷ 2 +ℚ whole 1 ≡ pos 3 ÷ 2
unfolding ◌+ℚ◌ ◌÷◌
half_more = sound refl

-- 1/2 + 3/2
pub halves_add : pos 1 ÷ 2 +ℚ pos 3 ÷ 2 ≡ whole 2
unfolding ◌+ℚ◌ ◌÷◌
halves_add = sound refl

half_lt_one : pos 1 ÷ 2 <ℚ whole 1
unfolding at_most ◌÷◌
half_lt_one = record { lt = tt }

half_lt_three_halves : pos 1 ÷ 2 <ℚ pos 3 ÷ 2
unfolding at_most ◌÷◌
half_lt_three_halves = record { lt = tt }

one_lt_three_halves : whole 1 <ℚ pos 3 ÷ 2
unfolding at_most ◌÷◌
one_lt_three_halves = record { lt = tt }

zero_le_half : whole 0 ≤ℚ pos 1 ÷ 2
unfolding at_most ◌÷◌
zero_le_half = record { le = tt }

-- ---- where two pieces meet

-- the sine sum at a multiple of 0 is its own negative
sine_sum-turned : (n : ℕ) (p z w : ℚ) → p *ℚ w ≡ neg_ℚ (p *ℚ z) → neg_ℚ (sine_sum n (p *ℚ z)) ≡ sine_sum n (p *ℚ w)
sine_sum-turned n p z w e = sym (sine_sum-neg n (p *ℚ z)) ∙ ap (sine_sum n) (sym e)

pub pieces_agree_lem : PiecesAgree
pieces_agree_lem =
    record {
      at_0 = λ n. sine_sum-turned n (pi_sum n) (whole 2 -ℚ whole 2) (whole 0) (ring₁ ℚ_ring (λ p. p ⊠ num 0) (λ p. opp (p ⊠ (num 2 ⊟ num 2))) refl (pi_sum n));
      at_half = λ n. ap (λ t. sine_sum n (pi_sum n *ℚ t)) half_apart;
      at_1 = λ n. sym (sine_sum-turned n (pi_sum n) (whole 1 -ℚ whole 1) (whole 1 -ℚ whole 1)
          (ring₁ ℚ_ring (λ p. p ⊠ (num 1 ⊟ num 1)) (λ p. opp (p ⊠ (num 1 ⊟ num 1))) refl (pi_sum n)));
      at_3_halves = λ n. ap (λ t. neg_ℚ (sine_sum n (pi_sum n *ℚ t))) three_halves_apart;
    }

-- ---- each piece on its closed quarter

-- the choice by a test of x ≤ y
chosen : {a b c : ℚ} (x y : ℚ) → (x ≤ℚ y → a ≡ c) → (y <ℚ x → b ≡ c) → cond (at_most x y) a b ≡ c
chosen {a} {b} {c} x y f g = cases (at_most x y) (λ t. f (record { le = t })) (λ t. g (record { lt = t }))
  where
    cases : (s : Bool) → (T s → a ≡ c) → (T (not s) → b ≡ c) → cond s a b ≡ c
    cases true f g = f tt
    cases false f g = g tt

pub on_first : (n : ℕ) (t : ℚ) → t ≤ℚ pos 1 ÷ 2 → sine_within_turn n t ≡ first_piece n t
on_first n t h = chosen t (pos 1 ÷ 2) (λ _. refl) (λ k. lt_not_le (pos 1 ÷ 2) t k h)

pub on_second : (n : ℕ) (t : ℚ) → pos 1 ÷ 2 ≤ℚ t → t ≤ℚ whole 1 → sine_within_turn n t ≡ second_piece n t
on_second n t l h =
    chosen t (pos 1 ÷ 2) (λ k. subst (λ s. first_piece n s ≡ second_piece n s) (le_antisym (pos 1 ÷ 2) t l k) (pieces_agree_lem.at_half n))
    (λ _. chosen t (whole 1) (λ _. refl) (λ k. lt_not_le (whole 1) t k h))

pub on_third : (n : ℕ) (t : ℚ) → whole 1 ≤ℚ t → t ≤ℚ pos 3 ÷ 2 → sine_within_turn n t ≡ third_piece n t
on_third n t l h =
    chosen t (pos 1 ÷ 2) (λ k. lt_not_le (pos 1 ÷ 2) (whole 1) half_lt_one (le_trans (whole 1) t (pos 1 ÷ 2) l k))
    (λ _. chosen t (whole 1) (λ k. subst (λ s. second_piece n s ≡ third_piece n s) (le_antisym (whole 1) t l k) (pieces_agree_lem.at_1 n))
    (λ _. chosen t (pos 3 ÷ 2) (λ _. refl) (λ k. lt_not_le (pos 3 ÷ 2) t k h)))

pub on_fourth : (n : ℕ) (t : ℚ) → pos 3 ÷ 2 ≤ℚ t → sine_within_turn n t ≡ fourth_piece n t
on_fourth n t l =
    chosen t (pos 1 ÷ 2) (λ k. lt_not_le (pos 1 ÷ 2) (pos 3 ÷ 2) half_lt_three_halves (le_trans (pos 3 ÷ 2) t (pos 1 ÷ 2) l k))
    (λ _. chosen t (whole 1) (λ k. lt_not_le (whole 1) (pos 3 ÷ 2) one_lt_three_halves (le_trans (pos 3 ÷ 2) t (whole 1) l k))
    (λ _. chosen t (pos 3 ÷ 2) (λ k. subst (λ s. third_piece n s ≡ fourth_piece n s) (le_antisym (pos 3 ÷ 2) t l k) (pieces_agree_lem.at_3_halves n))
    (λ _. refl)))

-- ---- the second half of the turn mirrors the first

twice_neg : (x : ℚ) → x ≡ neg_ℚ (neg_ℚ x)
twice_neg = ring₁ ℚ_ring (λ x. x) (λ x. opp (opp x)) refl

pub sine_within_turn-mirrored : (n : ℕ) (t : ℚ) → sine_within_turn n (whole 2 -ℚ t) ≡ neg_ℚ (sine_within_turn n t)
sine_within_turn-mirrored n t =
    le_or_lt t (pos 1 ÷ 2)
    (λ h. on_fourth n (whole 2 -ℚ t) (le₃ ℚ_ordered (λ t a b. b) (λ t a b. num 2 ⊟ t) (λ t a b. le t a ∷ same (num 1) (a ⊞ b) (num 2) ∷
    []) refl t (pos 1 ÷ 2) (pos 3 ÷ 2) (h, (halves_add, tt)))
    ∙ ap neg_ℚ (at_same n (whole 2 -ℚ (whole 2 -ℚ t)) t (ring₁ ℚ_ring (λ t. num 2 ⊟ (num 2 ⊟ t)) (λ t. t) refl t) ∙ sym (on_first n t h)))
    (λ l. le_or_lt t (whole 1)
    (λ h. on_third n (whole 2 -ℚ t) (le₁ ℚ_ordered (λ t. num 1) (λ t. num 2 ⊟ t) (λ t. le t (num 1) ∷ []) refl t (h, tt))
    (le₃ ℚ_ordered (λ t a b. num 2 ⊟ t) (λ t a b. b) (λ t a b. le a t ∷ same (num 1) (num 2) (a ⊞ b) ∷ []) refl t (pos 1 ÷ 2) (pos 3 ÷ 2)
    (lt_le (pos 1 ÷ 2) t l, (sym halves_add, tt)))
    ∙ ap neg_ℚ (at_same n (whole 2 -ℚ t -ℚ whole 1) (whole 1 -ℚ t) (ring₁ ℚ_ring (λ t. num 2 ⊟ t ⊟ num 1) (λ t. num 1 ⊟ t) refl t)
    ∙ sym (on_second n t (lt_le (pos 1 ÷ 2) t l) h)))
    (λ m. le_or_lt t (pos 3 ÷ 2)
    (λ h. on_second n (whole 2 -ℚ t)
    (le₃ ℚ_ordered (λ t a b. a) (λ t a b. num 2 ⊟ t) (λ t a b. le t b ∷ same (num 1) (a ⊞ b) (num 2) ∷ []) refl t (pos 1 ÷ 2) (pos 3 ÷ 2) (h, (halves_add, tt)))
    (le₁ ℚ_ordered (λ t. num 2 ⊟ t) (λ t. num 1) (λ t. le (num 1) t ∷ []) refl t (lt_le (whole 1) t m, tt))
    ∙ at_same n (whole 1 -ℚ (whole 2 -ℚ t)) (t -ℚ whole 1) (ring₁ ℚ_ring (λ t. num 1 ⊟ (num 2 ⊟ t)) (λ t. t ⊟ num 1) refl t)
    ∙ twice_neg (sine_sum n (pi_sum n *ℚ (t -ℚ whole 1))) ∙ ap neg_ℚ (sym (on_third n t (lt_le (whole 1) t m) h)))
    (λ k. on_first n (whole 2 -ℚ t)
    (le₃ ℚ_ordered (λ t a b. num 2 ⊟ t) (λ t a b. a) (λ t a b. le b t ∷ same (num 1) (num 2) (a ⊞ b) ∷ []) refl t (pos 1 ÷ 2) (pos 3 ÷ 2)
    (lt_le (pos 3 ÷ 2) t k, (sym halves_add, tt)))
    ∙ twice_neg (sine_sum n (pi_sum n *ℚ (whole 2 -ℚ t))) ∙ ap neg_ℚ (sym (on_fourth n t (lt_le (pos 3 ÷ 2) t k))))))
  where
    at_same : (n : ℕ) (x y : ℚ) → x ≡ y → sine_sum n (pi_sum n *ℚ x) ≡ sine_sum n (pi_sum n *ℚ y)
    at_same n x y e = ap (λ t. sine_sum n (pi_sum n *ℚ t)) e

-- ---- the approximation is odd

pub sine_at_zero : (n : ℕ) → sine_within_turn n (whole 0) ≡ neg_ℚ (sine_within_turn n (whole 0))
sine_at_zero n =
    let first = on_first n (whole 0) zero_le_half in
    first
    ∙ sym (sine_sum-turned n (pi_sum n) (whole 0) (whole 0) (ring₁ ℚ_ring (λ p. p ⊠ num 0) (λ p. opp (p ⊠ num 0)) refl (pi_sum n)))
    ∙ ap neg_ℚ (sym first)

pub sine_is_odd_lem : SineIsOdd
unfolding sine_of_turn
sine_is_odd_lem n t =
    le_or_lt (wrapped t) (whole 0)
    (λ h. let z = le_antisym (wrapped t) (whole 0) h (wrapped_low t) in
    ap (sine_within_turn n) (wrapped-neg_zero t z) ∙ sine_at_zero n ∙ ap (λ w. neg_ℚ (sine_within_turn n w)) (sym z))
    (λ p. ap (sine_within_turn n) (wrapped-neg_inside t p) ∙ sine_within_turn-mirrored n (wrapped t))

-- ---- half a turn more, and whole turns

half_turned : (n : ℕ) (t : ℚ) → whole 0 ≤ℚ t → t ≤ℚ whole 1 → sine_within_turn n (t +ℚ whole 1) ≡ neg_ℚ (sine_within_turn n t)
half_turned n t low high =
    le_or_lt t (pos 1 ÷ 2)
    (λ h. on_third n (t +ℚ whole 1) (le₁ ℚ_ordered (λ t. num 1) (λ t. t ⊞ num 1) (λ t. le (num 0) t ∷ []) refl t (low, tt))
    (le₃ ℚ_ordered (λ t a b. t ⊞ num 1) (λ t a b. b) (λ t a b. le t a ∷ same (num 1) (a ⊞ num 1) b ∷ []) refl t (pos 1 ÷ 2) (pos 3 ÷ 2) (h, (half_more, tt)))
    ∙ ap neg_ℚ (ap (first_piece n) (ring₁ ℚ_ring (λ t. t ⊞ num 1 ⊟ num 1) (λ t. t) refl t) ∙ sym (on_first n t h)))
    (λ l. on_fourth n (t +ℚ whole 1)
    (le₃ ℚ_ordered (λ t a b. b) (λ t a b. t ⊞ num 1) (λ t a b. le a t ∷ same (num 1) b (a ⊞ num 1) ∷ []) refl t (pos 1 ÷ 2) (pos 3 ÷ 2)
    (lt_le (pos 1 ÷ 2) t l, (sym half_more, tt)))
    ∙ ap neg_ℚ (ap (first_piece n) (ring₁ ℚ_ring (λ t. num 2 ⊟ (t ⊞ num 1)) (λ t. num 1 ⊟ t) refl t) ∙ sym (on_second n t (lt_le (pos 1 ÷ 2) t l) high)))

pub half_turn_negates_lem : HalfTurnNegates
unfolding sine_of_turn
half_turn_negates_lem n t =
    let w = wrapped t in
    let v = w -ℚ whole 1 in
    let S = sine_within_turn n in
    le_or_lt (whole 1) w
    (λ h. let small : v ≤ℚ whole 1 = le₁ ℚ_ordered (λ w. w ⊟ num 1) (λ w. num 1) (λ w. le w (num 2) ∷ []) refl w (lt_le w (whole 2) (wrapped_high t), tt) in
    ap S (wrapped-half_high t h) ∙ twice_neg (S v)
    ∙ ap neg_ℚ (sym (half_turned n v (difference_nonneg (whole 1) w h) small) ∙ ap S (ring₁ ℚ_ring (λ w. w ⊟ num 1 ⊞ num 1) (λ w. w) refl w)))
    (λ l. ap S (wrapped-half_low t l) ∙ half_turned n w (wrapped_low t) (lt_le w (whole 1) l))

pub whole_turns_keep_lem : WholeTurnsKeep
unfolding sine_of_turn
whole_turns_keep_lem n t k = ap (sine_within_turn n) (wrapped-turns t k)
