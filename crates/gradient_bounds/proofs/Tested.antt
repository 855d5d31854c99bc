-- What the decision by the numbers of heights says of the table, and of the functions at the centre of a neighbourhood.
use Rattle.std.proofs.Common.{◌≡◌, refl, sym, ap, ◌∙◌, subst, ℕ, ◌+◌, ◌*◌, ◌^◌, ◌≤◌, List, ℤ, pos, ◌+ℤ◌, ◌-ℤ◌, ◌*ℤ◌, neg_ℤ, ◌≤ℤ◌, arith}
use Rattle.std.specs.Prelude.{◌↔◌}
use Rattle.std.specs.List.{All}
use Rattle.std.proofs.lemmas.Int.{ints}
use Rattle.ring_solver.specs.Expression.{num, ◌⊠◌}
use Rattle.ring_solver.proofs.Solver.{ring₁, ring₂}
use Rattle.ring_solver.proofs.Whole.{ℤ_ring}
use Rattle.rat_core.specs.Fraction.{ℚ}
use Rattle.edge_words.specs.Letters.{IsPlace}
use Rattle.edge_words.specs.Stable.{IsStable}
use Rattle.edge_words.specs.Word.{IsWord}
use Rattle.exp_sums.specs.FormalPoint.{FormalPoint}
use Rattle.exp_sums.specs.Limits.{weight}
use Rattle.exp_sums.specs.Reach.{reach}
use Rattle.trig_meaning.specs.FromSomeOn.{FromSomeOn}
use Rattle.trig_meaning.specs.Value.{value_at}
use Rattle.unfolding.specs.Shift.{IsShift}
use Rattle.unfolding.proofs.Shifts.{same_shift}
use Rattle.rational_polygon.specs.Square.{Square}
use Rattle.directed_fixed.specs.Ends.{Encloses}
use Rattle.directed_fixed.specs.Rounding.{IsCeiling}
use Rattle.defining_functions.specs.Functions.{defining_function}
use Rattle.defining_functions.proofs.Limits.{function_limits}
use Rattle.gradient_bounds.specs.declared.neighbourhood.Neighbourhood.{Neighbourhood}
use Rattle.gradient_bounds.specs.declared.sine_low.SineLow.{SineLow}
use Rattle.gradient_bounds.specs.Clear.{slack}
use Rattle.gradient_bounds.specs.Corridor.{EachFunction, SomeFunction}
use Rattle.gradient_bounds.specs.Neighbourhood.{IsNeighbourhood, ball_of, IsClearIn, IsShutIn}
use Rattle.gradient_bounds.specs.declared.threshold.Threshold.{Threshold}
use Rattle.gradient_bounds.specs.Decision.{rounded_up, margin_units, threshold_by, needed_by, difference, EachReaches, SomeFallsBelow}
use Rattle.gradient_bounds.specs.Table.{IsTableOf, IsLowAt, number_in, bounds_in, box_drift, no_drift, LowerEndReaches, LowerEndIsAtLeast, UpperEndFalls}
use Rattle.gradient_bounds.specs.Kept.{AreUppers, AreLowers}
use Rattle.gradient_bounds.proofs.Computed.{ceiling_is}
use Rattle.gradient_bounds.proofs.EachFunction.{has_shift}
use Rattle.gradient_bounds.proofs.Numbering.{difference_is}
use Rattle.gradient_bounds.proofs.Numbers.{IsScale, drift_units, needed, reaches_clear, clear_reaches, falls_shut, shut_falls}
use Rattle.gradient_bounds.proofs.Sums.{function_listed, bounds_hold}

-- ---- drifts

-- a drift is that of the neighbourhood
abbrev pub IsDriftIn : ℤ → Neighbourhood → (FormalPoint → ℤ) → Type 0
IsDriftIn pi r drift = (f : FormalPoint) → drift f ≡ drift_units pi r (reach f)

pub box_drift_is : (pi : ℤ) (box : Square) (r : Neighbourhood) → r.radius ≡ pos 1 → r.centre.den ≡ pos (2 ^ (box.level + 1))
    → IsDriftIn pi r (box_drift pi box)
box_drift_is pi box r radius den f = λ i. rounded_up (times i *ℤ pos (reach f)) (sym den i)
  where
    times : pi ≡ pi *ℤ r.radius
    times = ring₁ ℤ_ring (λ x. x) (λ x. x ⊠ num 1) refl pi ∙ ap (λ z. pi *ℤ z) (sym radius)

pub no_drift_is : (pi : ℤ) (r : Neighbourhood) → r.radius ≡ pos 0 → pos 1 ≤ℤ r.centre.den → IsDriftIn pi r no_drift
no_drift_is pi r radius positive f = ceiling_is (pos 0) (pi *ℤ r.radius *ℤ pos (reach f)) r.centre.den positive (ceiling (pi *ℤ r.radius *ℤ pos
    (reach f)) r.centre.den none positive)
  where
    none : pi *ℤ r.radius *ℤ pos (reach f) ≡ pos 0
    none = ap (λ z. pi *ℤ z *ℤ pos (reach f)) radius ∙ ring₂ ℤ_ring (λ p x. p ⊠ num 0 ⊠ x) (λ p x. num 0) refl pi (pos (reach f))

    ceiling : (n d : ℤ) → n ≡ pos 0 → pos 1 ≤ℤ d → IsCeiling (pos 0) n d
    ceiling n d e h =
        let zero_times : pos 0 *ℤ d ≡ pos 0 = ring₁ ℤ_ring (λ d. num 0 ⊠ d) (λ d. num 0) refl d in
        record { at_least = omega (arith, ints, e, zero_times); near = omega (arith, ints, e, zero_times, h) }

-- ---- one function

-- what a number has to reach, in the two forms
lower_from : (d m z : ℤ) (w : ℕ) (e : ℤ) → e ≡ d → (pos (256 * w) +ℤ (d +ℤ m)) ≤ℤ z → (e +ℤ m) ≤ℤ (z -ℤ pos (256 * w))
lower_from d m z w e is h = omega (arith, ints, is, h)

lower_back : (d m z : ℤ) (w : ℕ) (e : ℤ) → e ≡ d → (e +ℤ m) ≤ℤ (z -ℤ pos (256 * w)) → (pos (256 * w) +ℤ (d +ℤ m)) ≤ℤ z
lower_back d m z w e is h = omega (arith, ints, is, h)

upper_from : (d m z : ℤ) (w : ℕ) (e : ℤ) → e ≡ d → z ≤ℤ neg_ℤ (pos (256 * w) +ℤ (d +ℤ m)) → (z +ℤ pos (256 * w)) ≤ℤ neg_ℤ (e +ℤ m)
upper_from d m z w e is h = omega (arith, ints, is, h)

upper_back : (d m z : ℤ) (w : ℕ) (e : ℤ) → e ≡ d → (z +ℤ pos (256 * w)) ≤ℤ neg_ℤ (e +ℤ m) → z ≤ℤ neg_ℤ (pos (256 * w) +ℤ (d +ℤ m))
upper_back d m z w e is h = omega (arith, ints, is, h)

-- ---- all functions

-- what the tests stand on
pub record IsTested (w : List ℕ) (table : List SineLow) (us ls : List ℤ) : Type 0 where
  pub word : IsWord w
  pub stable : IsStable w
  pub directions : IsTableOf w table
  pub uppers : AreUppers w table us
  pub lowers : AreLowers w table ls

module _ (w : List ℕ) (table : List SineLow) (us ls : List ℤ) (h : IsTested w table us ls) where
  abbrev F : FormalPoint → ℕ → ℕ → FormalPoint
  F v k l = defining_function v w k l

  -- what follows of a function from a fact about the number that is needed, and the other way
  abbrev Follows : (FormalPoint → Type 0) → (FormalPoint → Type 0) → Type 0
  Follows P Q = (v : FormalPoint) (shift : IsShift w v) (k l : ℕ) (p : IsPlace w k) (q : IsPlace w l) → P (F v k l) → Q (F v k l)

  -- the difference of two numbers is the function's number
  number_is : (v : FormalPoint) → IsShift w v → (k l : ℕ) → IsPlace w k → IsPlace w l → difference us ls k l ≡ number_in table (F v k l)
  number_is v shift k l p q = difference_is w table us ls h.uppers h.lowers v shift k l p q

  -- ---- each function

  -- the decision by what functions need says what holds of each function's number
  each_from : (needs : FormalPoint → ℤ) (P : FormalPoint → Type 0) → Follows (λ f. needs f ≤ℤ number_in table f) P → EachReaches needs w us ls → EachFunction w P
  each_from needs P f reaches =
      let shift = has_shift w h.word h.stable in
      record {
        stable = h.stable;
        shift = shift.0;
        is_shift = shift.1;
        each = λ k l p q. f shift.0 shift.1 k l p q (subst (λ z. needs (F shift.0 k l) ≤ℤ z) (number_is shift.0 shift.1 k l p q)
            (reaches k l p q shift.0 shift.1));
      }

  each_back : (needs : FormalPoint → ℤ) (P : FormalPoint → Type 0) → Follows P (λ f. needs f ≤ℤ number_in table f) → EachFunction w P → EachReaches needs w us ls
  each_back needs P f each k l p q v shift =
      let here = subst (λ u. P (F u k l)) (same_shift w each.shift v each.is_shift shift) (each.each k l p q) in
      subst (λ z. needs (F v k l) ≤ℤ z) (sym (number_is v shift k l p q)) (f v shift k l p q here)

  -- each lower end is at least a threshold exactly where each number reaches as much as is needed for it
  pub each_above : (t : Threshold) → EachReaches (needed_by t) w us ls ↔ EachFunction w (LowerEndIsAtLeast (threshold_by t) table)
  each_above t = (
    each_from (needed_by t) (LowerEndIsAtLeast (threshold_by t) table) (λ v shift k l p q. let f = F v k l in
        less (threshold_by t f) (number_in table f) (256 * weight f)),
    each_back (needed_by t) (LowerEndIsAtLeast (threshold_by t) table) (λ v shift k l p q. let f = F v k l in
        back (threshold_by t f) (number_in table f) (256 * weight f)),
  )
    where
      less : (t z : ℤ) (m : ℕ) → (pos m +ℤ t) ≤ℤ z → t ≤ℤ (z -ℤ pos m)
      less t z m h = omega (arith, ints)

      back : (t z : ℤ) (m : ℕ) → t ≤ℤ (z -ℤ pos m) → (pos m +ℤ t) ≤ℤ z
      back t z m h = omega (arith, ints)

  -- the value of a function is within its bounds
  value_within : (bits : ℕ) (x y : ℚ) → All (IsLowAt bits x y) table → (v : FormalPoint) → IsShift w v → (k l : ℕ) → IsPlace w k → IsPlace w l
      → FromSomeOn (λ n. Encloses bits (bounds_in table (F v k l)) (value_at n (F v k l) x y))
  value_within bits x y filled v shift k l p q = bounds_hold bits x y table (F v k l) filled (function_listed w table h.directions v shift k l p q)

  pub each_within : (bits : ℕ) (x y : ℚ) → All (IsLowAt bits x y) table
      → EachFunction w (λ f. FromSomeOn (λ n. Encloses bits (bounds_in table f) (value_at n f x y)))
  each_within bits x y filled =
      let shift = has_shift w h.word h.stable in
      record {
        stable = h.stable;
        shift = shift.0;
        is_shift = shift.1;
        each = value_within bits x y filled shift.0 shift.1;
      }

  -- ---- some function

  some_from : (needs : FormalPoint → ℤ) (P : FormalPoint → Type 0) → Follows (λ f. number_in table f ≤ℤ neg_ℤ (needs f)) P → SomeFallsBelow needs w us ls
      → SomeFunction w P
  some_from needs P f some =
      let shift = has_shift w h.word h.stable in
      let k = some.upper in
      let l = some.row.lower in
      record {
        stable = h.stable;
        shift = shift.0;
        is_shift = shift.1;
        upper = k;
        lower = l;
        is_upper = some.is_upper;
        is_lower = some.row.is_lower;
        holds = f shift.0 shift.1 k l some.is_upper some.row.is_lower
            (subst (λ z. z ≤ℤ neg_ℤ (needs (F shift.0 k l))) (number_is shift.0 shift.1 k l some.is_upper some.row.is_lower)
            (some.row.falls shift.0 shift.1));
      }

  some_back : (needs : FormalPoint → ℤ) (P : FormalPoint → Type 0) → Follows P (λ f. number_in table f ≤ℤ neg_ℤ (needs f)) → SomeFunction w P
      → SomeFallsBelow needs w us ls
  some_back needs P f some =
      let k = some.upper in
      let l = some.lower in
      let p = some.is_upper in
      let q = some.is_lower in
      record {
        upper = k;
        is_upper = p;
        row = record {
          lower = l;
          is_lower = q;
          falls = λ v shift.
              subst (λ z. z ≤ℤ neg_ℤ (needs (F v k l))) (sym (number_is v shift k l p q))
              (f v shift k l p q (subst (λ u. P (F u k l)) (same_shift w some.shift v some.is_shift shift) some.holds));
        };
      }

  -- ---- in a neighbourhood

  module _ (bits low high : ℕ) (L H : ℤ) (scale : IsScale bits low high L H) (r : Neighbourhood) (near : IsNeighbourhood r)
      (filled : All (IsLowAt bits (ball_of r).x (ball_of r).y) table) (drift : FormalPoint → ℤ) (drift_is : IsDriftIn H r drift) where
    abbrev needs : FormalPoint → ℤ
    needs = needed bits low H r

    slow : (v : FormalPoint) → IsShift w v → (k l : ℕ) → IsPlace w k → IsPlace w l → reach (F v k l) ≤ 260 * weight (F v k l)
    slow v shift k l p q = (function_limits w v h.word shift k l p q).slow

    value_near : (v : FormalPoint) → IsShift w v → (k l : ℕ) → IsPlace w k → IsPlace w l
        → FromSomeOn (λ n. Encloses bits (bounds_in table (F v k l)) (value_at n (F v k l) (ball_of r).x (ball_of r).y))
    value_near = value_within bits (ball_of r).x (ball_of r).y filled

    pub each_decided : EachReaches needs w us ls ↔ EachFunction w (LowerEndReaches bits low drift table)
    each_decided = (
      each_from needs (LowerEndReaches bits low drift table) (λ v shift k l p q. let f = F v k l in
          lower_from (drift_units H r (reach f)) (margin_units bits low (weight f)) (number_in table f) (weight f) (drift f) (drift_is f)),
      each_back needs (LowerEndReaches bits low drift table) (λ v shift k l p q. let f = F v k l in
          lower_back (drift_units H r (reach f)) (margin_units bits low (weight f)) (number_in table f) (weight f) (drift f) (drift_is f)),
    )

    pub each_clear : EachReaches needs w us ls → EachFunction w (IsClearIn (ball_of r) (slack low))
    each_clear = each_from needs (IsClearIn (ball_of r) (slack low)) (λ v shift k l p q.
        reaches_clear bits low high L H scale r near (F v k l) (slow v shift k l p q) (number_in table (F v k l)) (value_near v shift k l p q))

    pub clear_each : EachFunction w (IsClearIn (ball_of r) (slack high)) → EachReaches needs w us ls
    clear_each = each_back needs (IsClearIn (ball_of r) (slack high)) (λ v shift k l p q.
        clear_reaches bits low high L H scale r near (F v k l) (slow v shift k l p q) (number_in table (F v k l)) (value_near v shift k l p q))

    pub some_decided : SomeFallsBelow needs w us ls ↔ SomeFunction w (UpperEndFalls bits low drift table)
    some_decided = (
      some_from needs (UpperEndFalls bits low drift table) (λ v shift k l p q. let f = F v k l in
          upper_from (drift_units H r (reach f)) (margin_units bits low (weight f)) (number_in table f) (weight f) (drift f) (drift_is f)),
      some_back needs (UpperEndFalls bits low drift table) (λ v shift k l p q. let f = F v k l in
          upper_back (drift_units H r (reach f)) (margin_units bits low (weight f)) (number_in table f) (weight f) (drift f) (drift_is f)),
    )

    pub some_shut : SomeFallsBelow needs w us ls → SomeFunction w (IsShutIn (ball_of r) (slack low))
    some_shut = some_from needs (IsShutIn (ball_of r) (slack low)) (λ v shift k l p q.
        falls_shut bits low high L H scale r near (F v k l) (slow v shift k l p q) (number_in table (F v k l)) (value_near v shift k l p q))

    pub shut_some : SomeFunction w (IsShutIn (ball_of r) (slack high)) → SomeFallsBelow needs w us ls
    shut_some = some_back needs (IsShutIn (ball_of r) (slack high)) (λ v shift k l p q.
        shut_falls bits low high L H scale r near (F v k l) (slow v shift k l p q) (number_in table (F v k l)) (value_near v shift k l p q))
