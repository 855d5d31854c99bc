-- What the tests at the corners of a box say of all functions of a word.
use Rattle.std.proofs.Common.{◌≡◌, refl, sym, subst, ◌∙◌, ℕ, zero, suc, ◌+◌, ◌-◌, ◌*◌, ◌^◌}
use Rattle.std.proofs.Common.{◌<◌, ◌≤◌, List, Some, ℤ, pos, ◌+ℤ◌, ◌-ℤ◌, ◌*ℤ◌, ◌≤ℤ◌, arith}
use Rattle.std.specs.Prelude.{IfSome}
use Rattle.std.proofs.lemmas.Int.{ints}
use Rattle.std.proofs.Math.Pow.{pow_mono}
use Rattle.std.proofs.lemmas.Nat.{pow_pos}
use Rattle.rat_core.specs.Fraction.{ℚ, ◌÷◌, whole, ◌≤ℚ◌}
use Rattle.rat_core.specs.Written.{Written, value}
use Rattle.rat_core.proofs.Laws.{over_le}
use Rattle.rat_core.proofs.Order.{over_nonneg}
use Rattle.edge_words.specs.Letters.{IsPlace}
use Rattle.edge_words.specs.Stable.{IsStable}
use Rattle.edge_words.specs.Word.{IsWord}
use Rattle.exp_sums.specs.FormalPoint.{FormalPoint}
use Rattle.exp_sums.specs.Limits.{weight}
use Rattle.exp_sums.specs.Bend.{bend}
use Rattle.trig_meaning.specs.FromSomeOn.{FromSomeOn}
use Rattle.trig_meaning.specs.PartialSums.{pi_sum}
use Rattle.trig_meaning.specs.Value.{value_at}
use Rattle.unfolding.specs.Shift.{IsShift, HasShift}
use Rattle.unfolding.proofs.Shifts.{same_shift, stable_from_shift}
use Rattle.rational_polygon.specs.Point.{Point}
use Rattle.rational_polygon.specs.Square.{Square, box_corner}
use Rattle.directed_fixed.specs.Ends.{Encloses}
use Rattle.defining_functions.specs.Functions.{defining_function}
use Rattle.defining_functions.specs.Sizes.{sizes_of}
use Rattle.defining_functions.proofs.Limits.{function_limits, function_bend}
use Rattle.gradient_bounds.specs.Clear.{slack}
use Rattle.gradient_bounds.specs.CornerClear.{IsCornerClear}
use Rattle.gradient_bounds.specs.Corridor.{EachFunction}
use Rattle.gradient_bounds.specs.declared.sine_low.SineLow.{SineLow}
use Rattle.gradient_bounds.specs.declared.threshold.Threshold.{Threshold}
use Rattle.gradient_bounds.specs.Decision.{rounded_up, margin_units, measured, threshold_by}
use Rattle.gradient_bounds.specs.Table.{PreparedWord, number_in, bounds_in, LowerEndIsAtLeast}
use Rattle.gradient_bounds.proofs.Computed.{rounded_up_is_ceiling}
use Rattle.corner_bounds.specs.Sag.{IsSagThreshold}
use Rattle.corner_bounds.specs.Reaching.{ReachesAt, EachReachesAtCorner}
use Rattle.corner_bounds.proofs.Sags.{IsSag}
use Rattle.corner_bounds.proofs.Reaching.{IsSeen, seen_reaches, reaches_seen}

-- ---- all functions

-- what is known of a word and a box before a test: the threshold t is that of the box
pub record IsReady (bits low : ℕ) (L H : ℤ) (box : Square) (t : Threshold) (w : List ℕ) : Type 0 where
  pub one_unit : H ≡ L +ℤ pos 1
  pub pi : FromSomeOn (λ n. Encloses bits (record { lo = L; hi = H }) (pi_sum n))
  pub room : low + 8 ≤ bits
  pub deep : 10 ≤ box.level
  pub word : IsWord w
  pub is_sag : IsSagThreshold bits H box.level low t

-- the bounds are as narrow
bounds_narrow : (z : ℤ) (w : ℕ) → (z +ℤ pos (256 * w)) ≤ℤ (z -ℤ pos (256 * w) +ℤ pos (512 * w))
bounds_narrow z w = omega (arith, ints)

-- the sag and the margin of a threshold
abbrev sag_by : Threshold → FormalPoint → ℤ
sag_by t f = rounded_up (t.rate *ℤ pos (measured t.measure (sizes_of f))) t.parts

abbrev margin_by : Threshold → FormalPoint → ℤ
margin_by t f = t.slack *ℤ pos (1 + weight f)

-- the threshold of a box has the sag of each function in it, and the margin
record AreOfBox (bits low : ℕ) (H : ℤ) (level : ℕ) (f : FormalPoint) (D M : ℤ) : Type 0 where
  sag : IsSag bits H level (bend f) D
  margin : M ≡ margin_units bits low (weight f)

of_box : (bits low : ℕ) (H : ℤ) (level : ℕ) (t : Threshold) (f : FormalPoint) → IsSagThreshold bits H level low t
    → AreOfBox bits low H level f (sag_by t f) (margin_by t f)
of_box bits low H level t f h = subst (λ u. AreOfBox bits low H level f (sag_by u f) (margin_by u f)) (sym h.is) (record {
  sag = record {
    square = h.square;
    is_square = h.is_square;
    is_sag = rounded_up_is_ceiling (pos 2 *ℤ h.square *ℤ pos (bend f)) (pos (2 ^ (2 * level + 2))) (some (2 ^ (2 * level + 2)) (pow_pos (2 * level + 2)));
  };
  margin = refl;
})
  where
    some : (n : ℕ) → 0 < n → pos 1 ≤ℤ pos n
    some n h = omega (arith, ints)

module _ (bits low : ℕ) (L H : ℤ) (box : Square) (t : Threshold) (w : List ℕ) (ready : IsReady bits low L H box t w) (table : List SineLow) (x y : ℚ)
    (within : EachFunction w (λ f. FromSomeOn (λ n. Encloses bits (bounds_in table f) (value_at n f x y)))) where
  abbrev IsAbove : FormalPoint → Type 0
  IsAbove = LowerEndIsAtLeast (threshold_by t) table

  -- the word has one shift, so what holds of each function holds with any
  with_shift : (P : FormalPoint → Type 0) → EachFunction w P → (v : FormalPoint) → IsShift w v → (k l : ℕ) → IsPlace w k → IsPlace w l
      → P (defining_function v w k l)
  with_shift P each v shift k l p q =
      subst (λ u. P (defining_function u w k l)) (same_shift w each.shift v each.is_shift shift) (each.each k l p q)

  seen : (v : FormalPoint) → IsShift w v → (k l : ℕ) → IsPlace w k → IsPlace w l → let f = defining_function v w k l in
      IsSeen bits low L H box f x y (sag_by t f) (margin_by t f) (bounds_in table f)
  seen v shift k l p q =
      let f = defining_function v w k l in
      let box_has = of_box bits low H box.level t f ready.is_sag in
      record {
        one_unit = ready.one_unit;
        pi = ready.pi;
        room = ready.room;
        deep = ready.deep;
        bent = function_bend f (function_limits w v ready.word shift k l p q);
        is_sag = box_has.sag;
        is_margin = box_has.margin;
        encloses = with_shift (λ f. FromSomeOn (λ n. Encloses bits (bounds_in table f) (value_at n f x y))) within v shift k l p q;
        narrow = bounds_narrow (number_in table f) (weight f);
      }

  pub above_reaches : EachFunction w IsAbove → (k l : ℕ) → IsPlace w k → IsPlace w l → (v : FormalPoint) → IsShift w v
      → ReachesAt box (slack low) (defining_function v w k l) x y
  above_reaches each k l p q v shift =
      let f = defining_function v w k l in
      seen_reaches bits low L H box f x y (sag_by t f) (margin_by t f) (bounds_in table f) (seen v shift k l p q) (with_shift IsAbove each v shift k l p q)

  pub reaches_above : 4 ≤ low
      → ((k l : ℕ) → IsPlace w k → IsPlace w l → (v : FormalPoint) → IsShift w v → ReachesAt box (slack (low - 4)) (defining_function v w k l) x y)
      → EachFunction w IsAbove
  reaches_above some each = record {
    stable = within.stable;
    shift = within.shift;
    is_shift = within.is_shift;
    each = λ k l p q. let f = defining_function within.shift w k l in
        reaches_seen bits low L H box f x y (sag_by t f) (margin_by t f) (bounds_in table f) (seen within.shift within.is_shift k l p q) some
        (each k l p q within.shift within.is_shift);
  }

-- what is known of a word once its table is filled at the corner (a, b) of the box
pub record IsAtCorner (bits : ℕ) (box : Square) (a b : ℕ) (w : List ℕ) (x y : Written) (now : PreparedWord) : Type 0 where
  pub same : now.word ≡ w
  pub point : now.point ≡ Some (x, y)
  pub corner : record { x = value x; y = value y } ≡ box_corner box a b
  pub within : IfSome now.point (λ p. EachFunction now.word (λ f.
      FromSomeOn (λ n. Encloses bits (bounds_in now.table f) (value_at n f (value p.0) (value p.1)))))

module _ (bits low : ℕ) (L H : ℤ) (box : Square) (a b : ℕ) (t : Threshold) (w : List ℕ) (x y : Written) (now : PreparedWord)
    (ready : IsReady bits low L H box t now.word) (at : IsAtCorner bits box a b w x y now) where
  within_there : EachFunction now.word (λ f. FromSomeOn (λ n. Encloses bits (bounds_in now.table f) (value_at n f (value x) (value y))))
  within_there = subst (λ o. IfSome o (λ p. EachFunction now.word (λ f.
      FromSomeOn (λ n. Encloses bits (bounds_in now.table f) (value_at n f (value p.0) (value p.1)))))) at.point at.within

  pub shift_there : HasShift w
  shift_there = subst HasShift at.same (within_there.shift, within_there.is_shift)

  pub above_clear : EachFunction now.word (LowerEndIsAtLeast (threshold_by t) now.table) → EachReachesAtCorner box (slack low) w a b
  above_clear each =
      subst (λ u. EachReachesAtCorner box (slack low) u a b) at.same (λ k l p q v s.
      subst (λ (c : Point). ReachesAt box (slack low) (defining_function v now.word k l) c.x c.y) at.corner
      (above_reaches bits low L H box t now.word ready now.table (value x) (value y) within_there each k l p q v s))

  pub clear_above : 4 ≤ low → EachReachesAtCorner box (slack (low - 4)) w a b → EachFunction now.word (LowerEndIsAtLeast (threshold_by t) now.table)
  clear_above some each =
      let here = subst (λ u. EachReachesAtCorner box (slack (low - 4)) u a b) (sym at.same) each in
      reaches_above bits low L H box t now.word ready now.table (value x) (value y) within_there some (λ k l p q v s.
      subst (λ (c : Point). ReachesAt box (slack (low - 4)) (defining_function v now.word k l) c.x c.y) (sym at.corner) (here k l p q v s))

-- ---- corners

-- a coordinate of a corner is from 0 to 1
pub corner_between : (n d : ℕ) → n ≤ d → 0 < d → (whole 0 ≤ℚ pos n ÷ d) × (pos n ÷ d ≤ℚ whole 1)
corner_between n d h positive = (over_nonneg n d, over_le (pos n) (pos 1) d 1 positive (omega arith) (order n d h))
  where
    order : (n d : ℕ) → n ≤ d → (pos n *ℤ pos 1) ≤ℤ (pos 1 *ℤ pos d)
    order n d h = omega (arith, ints)

pub coordinate_between : (x : Written) (i a level : ℕ) → i < 2 ^ level → a ≤ 1 → x ≡ record { num = pos (i + a); den = 2 ^ level }
    → (whole 0 ≤ℚ value x) × (value x ≤ℚ whole 1)
coordinate_between x i a level inside h is = subst (λ (t : Written). (whole 0 ≤ℚ value t) × (value t ≤ℚ whole 1)) (sym is)
    (corner_between (i + a) (2 ^ level) (omega (arith, inside, h)) (pow_pos level))

-- the four corners are all
pub all_corners : (P : ℕ → ℕ → Type 0) → P 0 0 → P 1 0 → P 0 1 → P 1 1 → (a b : ℕ) → a ≤ 1 → b ≤ 1 → P a b
all_corners P p q s t zero zero h k = p
all_corners P p q s t (suc zero) zero h k = q
all_corners P p q s t zero (suc zero) h k = s
all_corners P p q s t (suc zero) (suc zero) h k = t
all_corners P p q s t (suc (suc a)) b h k = absurd (omega (arith, h))
all_corners P p q s t a (suc (suc b)) h k = absurd (omega (arith, k))

-- a word that reaches at the four corners is clear there
pub corner_clear_of : (box : Square) (e : ℚ) (w : List ℕ) → 10 ≤ box.level → IsStable w → HasShift w → EachReachesAtCorner box e w 0 0
    → EachReachesAtCorner box e w 1 0 → EachReachesAtCorner box e w 0 1 → EachReachesAtCorner box e w 1 1 → IsCornerClear w box e
corner_clear_of box e w deep stable shift p q s t = record {
  deep = deep;
  each = record {
    stable = stable;
    shift = shift.0;
    is_shift = shift.1;
    each = λ k l h h' a b g g'. all_corners (EachReachesAtCorner box e w) p q s t a b g g' k l h h' shift.0 shift.1;
  };
}

-- and the other way
pub reaches_of_clear : (box : Square) (e : ℚ) (w : List ℕ) → IsCornerClear w box e → (a b : ℕ) → a ≤ 1 → b ≤ 1 → EachReachesAtCorner box e w a b
reaches_of_clear box e w clear a b h h' k l g g' v shift =
    subst (λ u. ReachesAt box e (defining_function u w k l) (box_corner box a b).x (box_corner box a b).y)
    (same_shift w clear.each.shift v clear.each.is_shift shift) (clear.each.each k l g g' a b h h')

-- a word with a shift is stable
pub word_is_stable : (w : List ℕ) → IsWord w → HasShift w → IsStable w
word_is_stable w word shift = stable_from_shift w word.letters word.even_length.even shift

-- the words at the four tests, from the last to the first
pub record AreSame (w w₁ w₂ w₃ : List ℕ) : Type 0 where
  pub first : w₁ ≡ w
  pub second : w₂ ≡ w₁
  pub third : w₃ ≡ w₂

pub clear_at_four : (box : Square) (e : ℚ) (w w₁ w₂ w₃ : List ℕ) → AreSame w w₁ w₂ w₃ → 10 ≤ box.level → IsWord w → HasShift w
    → EachReachesAtCorner box e w 0 0 → EachReachesAtCorner box e w₁ 1 0 → EachReachesAtCorner box e w₂ 0 1 → EachReachesAtCorner box e w₃ 1 1
    → IsCornerClear w box e
clear_at_four box e w w₁ w₂ w₃ same deep word shift p q s t =
    let second = same.second ∙ same.first in
    corner_clear_of box e w deep (word_is_stable w word shift) shift p (subst (λ u. EachReachesAtCorner box e u 1 0) same.first q)
    (subst (λ u. EachReachesAtCorner box e u 0 1) second s) (subst (λ u. EachReachesAtCorner box e u 1 1) (same.third ∙ second) t)

-- a word that is clear at the corners reaches at each
pub reaches_at : (box : Square) (e : ℚ) (w u : List ℕ) → u ≡ w → IsCornerClear w box e → (a b : ℕ) → a ≤ 1 → b ≤ 1 → EachReachesAtCorner box e u a b
reaches_at box e w u same clear a b h h' = subst (λ v. EachReachesAtCorner box e v a b) (sym same) (reaches_of_clear box e w clear a b h h')

-- what the program's least slack is enough for
pub slack_enough : (low : ℕ) → low ≤ 40 → pos 1 ÷ 2 ^ 49 ≤ℚ slack low
slack_enough low h =
    let exponent : low ≤ 49 = omega (arith, h) in
    over_le (pos 1) (pos 1) (2 ^ 49) (2 ^ low) (pow_pos 49) (pow_pos low) (order (2 ^ low) (2 ^ 49) (pow_mono exponent))
  where
    order : (m n : ℕ) → m ≤ n → (pos 1 *ℤ pos m) ≤ℤ (pos 1 *ℤ pos n)
    order m n h = omega (arith, ints)
