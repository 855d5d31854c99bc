-- The heights of corners: their values, and what they lie in.
use Rattle.std.proofs.Common.{◌≡◌, refl, sym, ap, ◌∙◌, ℕ, ◌*◌, ◌^◌, ◌≤◌, List, [], ◌∷◌, max}
use Rattle.std.proofs.Common.{ℤ, pos, ◌+ℤ◌, ◌-ℤ◌, ◌≤ℤ◌, neg_ℤ, arith}
use Rattle.std.proofs.lemmas.Int.{ints}
use Rattle.ring_solver.specs.Expression.{num, opp, ◌⊠◌}
use Rattle.ring_solver.specs.Ordered.{le, times}
use Rattle.ring_solver.proofs.Certificate.{le₁, le₄, moved}
use Rattle.rat_core.specs.Fraction.{ℚ, ◌÷◌, whole, ◌+ℚ◌, ◌-ℚ◌, ◌*ℚ◌, neg_ℚ, ◌≤ℚ◌, abs}
use Rattle.rat_core.specs.Ring.{ℚ_ring, ℚ_image}
use Rattle.rat_core.proofs.Laws.{ℚ_ordered, le_trans, int-neg}
use Rattle.rat_core.proofs.Order.{int_le_back, whole_le, whole_nonneg, le_abs, neg_le_abs}
use Rattle.exp_sums.specs.declared.direction.Dir.{Dir}
use Rattle.exp_sums.specs.FormalPoint.{FormalPoint, terms, negative}
use Rattle.exp_sums.specs.Limits.{weight}
use Rattle.exp_sums.proofs.Weigh.{weigh-+ₚ, weigh-negative}
use Rattle.trig_meaning.specs.FromSomeOn.{FromSomeOn}
use Rattle.trig_meaning.specs.Turn.{sine_of_turn}
use Rattle.trig_meaning.specs.Value.{turn_of, value_at}
use Rattle.trig_meaning.proofs.Addition.{sine_bounded}
use Rattle.trig_meaning.proofs.Coordinates.{total_size}
use Rattle.trig_meaning.proofs.Quarters.{eight_fifths_at_most_two}
use Rattle.directed_fixed.specs.Ends.{Ends, Encloses}
use Rattle.defining_functions.specs.Functions.{defining_function}
use Rattle.defining_functions.specs.Heights.{upper_height, lower_height}
use Rattle.defining_functions.proofs.Differences.{function_difference}
use Rattle.bounce_path.specs.Crossings.{AreNear}

-- ---- values

-- the value of a function is the difference of the values of two heights
pub value_difference : (n : ℕ) (v : FormalPoint) (w : List ℕ) (k l : ℕ) (x y : ℚ)
    → value_at n (defining_function v w k l) x y ≡ value_at n (upper_height v w k) x y -ℚ value_at n (lower_height v w l) x y
value_difference n v w k l x y =
    let f : Dir → ℚ = λ d. sine_of_turn n (turn_of d x y) in
    ap (λ p. value_at n p x y) (function_difference v w k l)
    ∙ weigh-+ₚ ℚ_ring ℚ_image f (upper_height v w k) (negative (lower_height v w l))
    ∙ ap (λ t. value_at n (upper_height v w k) x y +ℚ t) (weigh-negative ℚ_ring ℚ_image f (lower_height v w l))

-- sines are at most 8/5 in size, so values are at most 2 for each unit of the weight
value_small : (n : ℕ) → 20 ≤ n → (f : FormalPoint) (x y : ℚ) → abs (value_at n f x y) ≤ℚ whole (weight f) *ℚ (pos 8 ÷ 5)
value_small n late f x y = total_size (λ d. sine_of_turn n (turn_of d x y)) (pos 8 ÷ 5) (λ d. sine_bounded n late (turn_of d x y)) (terms f)

-- where the weight is at most 16,384, a value is at most 2^15
within_height : (u a w g : ℚ) → u ≤ℚ a → a ≤ℚ w *ℚ g → whole 0 ≤ℚ w → g ≤ℚ whole 2 → w ≤ℚ whole 16384 → u *ℚ whole (2 ^ 60) ≤ℚ whole (2 ^ 75)
within_height u a w g h size nonneg two light =
    le₁ ℚ_ordered (λ u. u ⊠ num (2 ^ 60)) (λ u. num (2 ^ 75)) (λ u. times (num (2 ^ 60)) u (num 32768) ∷ []) refl u (
      whole_nonneg (2 ^ 60),
      le₄ ℚ_ordered (λ u a w g. u) (λ u a w g. num 32768) (λ u a w g. le u a ∷ le a (w ⊠ g) ∷ times w g (num 2) ∷ times (num 2) w (num 16384) ∷ []) refl u a w g
          (h, (size, (nonneg, two, (whole_nonneg 2, light, tt)))),
      tt,
    )

-- ---- ends

between : (lo hi z : ℤ) (w : ℕ) → w ≤ 16384 → lo ≡ z -ℤ pos (256 * w) → hi ≡ z +ℤ pos (256 * w) → lo ≤ℤ pos (2 ^ 75) → neg_ℤ (pos (2 ^ 75)) ≤ℤ hi
    → AreNear (record { lo = lo; hi = hi })
between lo hi z w light lo_is hi_is high low = record {
  in_order = omega (arith, ints, lo_is, hi_is);
  small = record { low = omega (arith, ints, lo_is, hi_is, high, low, light); high = omega (arith, ints, lo_is, hi_is, high, low, light) };
  narrow = omega (arith, ints, lo_is, hi_is, light);
}

-- the ends round a number, where the value of a form lies between them
pub ends_near : (z : ℤ) (x y : ℚ) (f : FormalPoint) (e : Ends) → weight f ≤ 16384
    → e ≡ record { lo = z -ℤ pos (256 * weight f); hi = z +ℤ pos (256 * weight f) } → FromSomeOn (λ n. Encloses 60 e (value_at n f x y)) → AreNear e
ends_near z x y f e light is holds =
    let start = max 20 holds.0 in
    let v = value_at start f x y in
    let size = value_small start (omega arith) f x y in
    let here = holds.1 start (omega arith) in
    let w = whole (weight f) in
    let unit = whole (2 ^ 60) in
    let up : v *ℚ unit ≤ℚ whole (2 ^ 75) =
    within_height v (abs v) w (pos 8 ÷ 5) (le_abs v) size (whole_nonneg (weight f)) eight_fifths_at_most_two (whole_le (weight f) 16384 light) in
    let down : neg_ℚ v *ℚ unit ≤ℚ whole (2 ^ 75) =
    within_height (neg_ℚ v) (abs v) w (pos 8 ÷ 5) (neg_le_abs v) size (whole_nonneg (weight f)) eight_fifths_at_most_two (whole_le (weight f) 16384 light) in
    between e.lo e.hi z (weight f) light (ap (λ (r : Ends). r.lo) is) (ap (λ (r : Ends). r.hi) is)
    (int_le_back e.lo (pos (2 ^ 75)) (le_trans (e.lo ÷ 1) (v *ℚ unit) (whole (2 ^ 75)) here.low up))
    (int_le_back (neg_ℤ (pos (2 ^ 75))) e.hi
    (moved ℚ_ordered (sym (int-neg (pos (2 ^ 75)))) refl
    (le₄ ℚ_ordered (λ v k b h. opp b) (λ v k b h. h) (λ v k b h. le (opp v ⊠ k) b ∷ le (v ⊠ k) h ∷ []) refl v unit (whole (2 ^ 75)) (e.hi ÷ 1) (
      down,
      (here.high, tt),
    ))))
