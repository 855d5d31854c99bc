-- The addition of the sine sums: sin(a + b) = sin a·cos b + cos a·sin b within 2^−90, where a and b are at most 8/5 in size.
use Rattle.std.proofs.Common.{◌≡◌, refl, sym, ap, ap₂, ℕ, suc, ◌^◌, ◌≤◌, pos, [], ◌∷◌, arith}
use Rattle.ring_solver.specs.Expression.{num, ◌⊞◌, opp}
use Rattle.ring_solver.specs.Ordered.{le}
use Rattle.ring_solver.proofs.Solver.{ring₁}
use Rattle.ring_solver.proofs.Certificate.{le₂, moved, add_mono_both}
use mathlib.Core.Quot.{sound}
use Rattle.rat_core.specs.Fraction.{ℚ, ◌÷◌, whole, ◌+ℚ◌, ◌-ℚ◌, ◌*ℚ◌, neg_ℚ, ◌≤ℚ◌, at_most, abs}
use Rattle.rat_core.proofs.Laws.{ℚ_ring, ℚ_ordered, le_trans}
use Rattle.rat_core.proofs.Sizes.{abs_nonneg}
use Rattle.trig_meaning.specs.PartialSums.{sine_sum, cosine_sum}
use Rattle.trig_meaning.proofs.Alternating.{twice}
use Rattle.trig_meaning.proofs.Odd.{odd_is}
use Rattle.trig_meaning.proofs.Products.{degree, le_degree}
use Rattle.trig_meaning.proofs.Exponential.{exponential_term, exponential_sum, exponential_term_mono, exponential_term_falls, exponential_later, falling_from}
use Rattle.trig_meaning.proofs.Turned.{sine_sum-turned_sum, cosine_sum-turned_sum, turned_addition, one_small, zero_small}

eight_fifths_twice : pos 8 ÷ 5 +ℚ pos 8 ÷ 5 ≡ pos 16 ÷ 5
unfolding ◌+ℚ◌ ◌÷◌
eight_fifths_twice = sound refl

neg_zero : neg_ℚ (whole 0) ≡ whole 0
neg_zero = ring₁ ℚ_ring (λ x. opp (num 0)) (λ x. num 0) refl (whole 0)

rest_closed : exponential_term (pos 16 ÷ 5) 41 ≤ℚ pos 1 ÷ 2 ^ 90
unfolding at_most ◌*ℚ◌ ◌÷◌
rest_closed = record { le = tt }

-- the rest of the exponential series after 42 or more terms
rest_small : (z : ℚ) → whole 0 ≤ℚ z → z ≤ℚ pos 16 ÷ 5 → (m n : ℕ) → 41 ≤ m → m ≤ n → exponential_sum z n -ℚ exponential_sum z m ≤ℚ pos 1 ÷ 2 ^ 90
rest_small z nonneg small m n late l =
    le_trans _ (exponential_term z m) _ (exponential_later z nonneg small m n (omega arith) l)
    (le_trans _ (exponential_term z 41) _ (falling_from (exponential_term z) 41 m (λ k h. exponential_term_falls z nonneg small k (omega arith)) late)
    (le_trans _ (exponential_term (pos 16 ÷ 5) 41) _ (exponential_term_mono z (pos 16 ÷ 5) nonneg small 41) rest_closed))

pub sine_addition : (n : ℕ) → 20 ≤ n → (a b : ℚ) → abs a ≤ℚ pos 8 ÷ 5 → abs b ≤ℚ pos 8 ÷ 5
    → abs (sine_sum n a *ℚ cosine_sum n b +ℚ cosine_sum n a *ℚ sine_sum n b -ℚ sine_sum n (a +ℚ b)) ≤ℚ pos 1 ÷ 2 ^ 90
sine_addition n late a b h l =
    let m = suc (twice n) in
    let z = abs a +ℚ abs b in
    let long : 41 ≤ m = let e = odd_is n in omega (arith, e, late) in
    let small : z ≤ℚ pos 16 ÷ 5 = moved ℚ_ordered refl eight_fifths_twice (add_mono_both ℚ_ordered (abs a) (pos 8 ÷ 5) (abs b) (pos 8 ÷ 5) h l) in
    let nonneg : whole 0 ≤ℚ z =
    le₂ ℚ_ordered (λ x y. num 0) (λ x y. x ⊞ y) (λ x y. le (num 0) x ∷ le (num 0) y ∷ []) refl (abs a) (abs b) (abs_nonneg a, (abs_nonneg b, tt)) in
    le_trans _ (exponential_sum z (degree m m) -ℚ exponential_sum z m) (pos 1 ÷ 2 ^ 90)
    (moved ℚ_ordered
    (ap abs (ap₂ ◌-ℚ◌
    (ap₂ ◌+ℚ◌
    (ap₂ ◌*ℚ◌ (sym (sine_sum-turned_sum n a)) (sym (cosine_sum-turned_sum n b (whole 0) refl)))
    (ap₂ ◌*ℚ◌ (sym (cosine_sum-turned_sum n a (neg_ℚ (whole 0)) neg_zero)) (sym (sine_sum-turned_sum n b))))
    (sym (sine_sum-turned_sum n (a +ℚ b))))) refl
    (turned_addition (whole 0) (whole 1) zero_small one_small a b m))
    (rest_small z nonneg small m (degree m m) long (le_degree m m))
