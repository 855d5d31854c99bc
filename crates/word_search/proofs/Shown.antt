-- What the heights of a word's corners in whole numbers say of its functions.
use Rattle.std.proofs.Common.{◌≡◌, refl, sym, ap, ap₂, subst, ◌∙◌, ℕ, ◌+◌, ◌-◌, ◌^◌, ◌<◌, ◌≤◌, List, [], ◌∷◌, length, take, slice_index_or, subst₂, length-take}
use Rattle.std.proofs.Common.{ℤ, pos, ◌-ℤ◌, ◌*ℤ◌, ◌≤ℤ◌, unsigned_abs, inl, inr, arith}
use Rattle.std.specs.List.{All}
use Rattle.std.proofs.lemmas.Bool.{cases_lt}
use Rattle.std.proofs.lemmas.Int.{ints}
use Rattle.std.proofs.lemmas.List.{get_or-take, take_all}
use Rattle.ring_solver.specs.Expression.{num, opp, ◌⊞◌, ◌⊟◌, ◌⊠◌}
use Rattle.ring_solver.specs.Ordered.{le, times}
use Rattle.ring_solver.proofs.Solver.{ring₁, ring₂, ring₆}
use Rattle.ring_solver.proofs.Certificate.{le₂, le₄, le₆, moved, mul_mono}
use Rattle.ring_solver.proofs.Whole.{ℤ_ring}
use Rattle.rat_core.specs.Fraction.{ℚ, ◌÷◌, whole, ◌+ℚ◌, ◌-ℚ◌, ◌*ℚ◌, neg_ℚ, ◌≤ℚ◌, ◌<ℚ◌, abs, at_most}
use Rattle.rat_core.specs.Written.{Written, value}
use Rattle.rat_core.proofs.Laws.{ℚ_ring, ℚ_ordered, le_refl, le_trans, lt_not_le, mul_nonneg}
use Rattle.rat_core.proofs.Order.{int_le, le_abs, neg_le_abs, over_nonneg, whole_le, whole_nonneg, mul_mono_both}
use Rattle.rat_core.proofs.Sizes.{abs_nonneg}
use Rattle.edge_words.specs.Letters.{IsPlace}
use Rattle.edge_words.specs.Stable.{IsStable}
use Rattle.edge_words.specs.Word.{IsWord}
use Rattle.exp_sums.specs.FormalPoint.{FormalPoint, terms, conj, zero_point, ◌-ₚ◌, ◌*ₚ◌}
use Rattle.exp_sums.specs.Limits.{weight}
use Rattle.exp_sums.specs.SineForm.{sine_form}
use Rattle.trig_meaning.specs.FromSomeOn.{FromSomeOn}
use Rattle.trig_meaning.specs.Turn.{sine_of_turn}
use Rattle.trig_meaning.specs.Value.{turn_of, value_at, IsPositiveAt}
use Rattle.trig_meaning.proofs.Coordinates.{total_size}
use Rattle.trig_meaning.proofs.FromSomeOnLaws.{onward, onward_both, somewhere}
use Rattle.unfolding.specs.Corners.{upper_corner, lower_corner}
use Rattle.unfolding.specs.Shift.{IsShift}
use Rattle.unfolding.specs.Triangle.{mirrors, corner_of, centre_of}
use Rattle.unfolding.proofs.Bounds.{weight-centre, weight-corners_apart}
use Rattle.unfolding.proofs.Shifts.{shift_from_stable, same_shift}
use Rattle.defining_functions.specs.Functions.{defining_function}
use Rattle.gradient_bounds.specs.Clear.{slack, margin, IsClearFunction, IsClearAtPoint}
use Rattle.gradient_bounds.specs.Corridor.{HasCorridor}
use Rattle.word_search.specs.declared.place.Place.{Place}
use Rattle.word_search.specs.Places.{in_units, IsSmallPlace, AreUnits, place_of, height_over}
use Rattle.word_search.proofs.Crossings.{apart, height_in_units, height_near}
use Rattle.word_search.proofs.Placed.{centre_small, corner_small, heights_fit, known_centre, known_difference, place_difference}
use Rattle.word_search.proofs.Heights.{int_order}
use Rattle.word_search.proofs.UnitCircle.{sizes, circle}

-- what a height of a word of at most 24 letters is off by
abbrev bound : ℚ
bound = whole 2304 *ℚ apart

abbrev unit : ℚ
unit = pos 1 ÷ 2 ^ 55

bound_small : bound <ℚ slack 40
unfolding at_most ◌÷◌ ◌+ℚ◌ ◌*ℚ◌
bound_small = record { lt = tt }

room : whole 0 <ℚ slack 40 -ℚ bound
unfolding at_most ◌÷◌ ◌+ℚ◌ ◌*ℚ◌ neg_ℚ
room = record { lt = tt }

positive_slack : whole 0 <ℚ slack 40
unfolding at_most ◌÷◌
positive_slack = record { lt = tt }

apart_nonneg : whole 0 ≤ℚ apart
unfolding at_most ◌÷◌ ◌+ℚ◌ ◌*ℚ◌
apart_nonneg = record { le = tt }

-- 2^70 units of 2^−110 are 2^−40
needed_most : in_units (pos (2 ^ 70)) *ℚ unit ≤ℚ slack 40
unfolding at_most ◌÷◌ ◌*ℚ◌
needed_most = record { le = tt }

needed_least : slack 40 ≤ℚ in_units (pos (2 ^ 70)) *ℚ unit
unfolding at_most ◌÷◌ ◌*ℚ◌
needed_least = record { le = tt }

units_mono : (a b : ℤ) → a ≤ℤ b → in_units a *ℚ unit ≤ℚ in_units b *ℚ unit
units_mono a b h =
    let turned : (z : ℤ) → unit *ℚ unit *ℚ (z ÷ 1) ≡ in_units z *ℚ unit =
    λ z. ring₂ ℚ_ring (λ u z. u ⊠ u ⊠ z) (λ u z. z ⊠ u ⊠ u) refl unit (z ÷ 1) in
    moved ℚ_ordered (turned a) (turned b)
    (mul_mono ℚ_ordered (unit *ℚ unit) (a ÷ 1) (b ÷ 1) (mul_nonneg unit unit (over_nonneg 1 (2 ^ 55)) (over_nonneg 1 (2 ^ 55))) (int_le a b h))

-- a form whose value is within the bound of a number
abbrev IsNumberNear : ℚ → ℚ → FormalPoint → ℤ → Type 0
IsNumberNear x y f z = FromSomeOn (λ n. abs (in_units z *ℚ unit -ℚ value_at n f x y) ≤ℚ bound)

-- is positive where the number is at least 2^70
positive : (x y : ℚ) (f : FormalPoint) (z : ℤ) → IsNumberNear x y f z → pos (2 ^ 70) ≤ℤ z → IsPositiveAt f x y
positive x y f z near enough = (
  slack 40 -ℚ bound,
  room,
  onward (λ n h.
      le₄ ℚ_ordered (λ e b z v. e ⊟ b) (λ e b z v. v) (λ e b z v. le e z ∷ le (z ⊟ v) b ∷ []) refl (slack 40) bound (in_units z *ℚ unit) (value_at n f x y) (
        le_trans (slack 40) (in_units (pos (2 ^ 70)) *ℚ unit) (in_units z *ℚ unit) needed_least (units_mono (pos (2 ^ 70)) z enough),
        (le_trans _ _ bound (le_abs (in_units z *ℚ unit -ℚ value_at n f x y)) h, tt),
      )) near,
)

-- the sizes of the sine and the cosine
abbrev IsBounded : ℕ → Type 0
IsBounded n = (t : ℚ) → abs (sine_of_turn n (t +ℚ pos 1 ÷ 2)) +ℚ abs (sine_of_turn n t) ≤ℚ sizes

-- is not clear where the number is at most 2^70
not_clear : (x y : ℚ) (f : FormalPoint) (z : ℤ) → IsNumberNear x y f z → z ≤ℤ pos (2 ^ 70) → IsClearFunction x y (slack 40) f → ⊥
not_clear x y f z near little clear =
    let both = somewhere {P = λ n. (abs (in_units z *ℚ unit -ℚ value_at n f x y) ≤ℚ bound) × (margin (slack 40) f ≤ℚ value_at n f x y) × IsBounded n}
    (onward_both (λ n h k. (h, k.0, k.1)) near (onward_both {R = λ n. (margin (slack 40) f ≤ℚ value_at n f x y) × IsBounded n} (λ n h k.
    (h, k)) clear circle)) in
    let n = both.0 in
    let v = value_at n f x y in
    let N = in_units z *ℚ unit in
    let e = slack 40 in
    let number : N ≤ℚ e = le_trans N (in_units (pos (2 ^ 70)) *ℚ unit) e (units_mono z (pos (2 ^ 70)) little) needed_most in
    let over : v -ℚ N ≤ℚ bound =
    moved ℚ_ordered (ring₂ ℚ_ring (λ z v. opp (z ⊟ v)) (λ z v. v ⊟ z) refl N v) refl (le_trans (neg_ℚ (N -ℚ v)) (abs (N -ℚ v)) bound (neg_le_abs
    (N -ℚ v)) both.1.0) in
    elim (cases_lt 0 (weight f)) [
      | inl heavy ↦
          let two : whole 2 ≤ℚ whole (1 + weight f) = whole_le 2 (1 + weight f) (omega (arith, heavy)) in
          lt_not_le bound e bound_small
          (le₆ ℚ_ordered (λ e b z v w x. e) (λ e b z v w x. b) (λ e b z v w x. le (e ⊠ w) v ∷ le (v ⊟ z) b ∷ le z e ∷ times e (num 2) w ∷ []) refl e bound N v
          (whole (1 + weight f)) e (both.1.1, (over, (number, (over_nonneg 1 (2 ^ 40), two, tt)))))
      | inr light ↦
          let none : weight f ≡ 0 = omega (arith, light) in
          let size : abs v ≤ℚ whole (weight f) *ℚ sizes =
          total_size (λ d. sine_of_turn n (turn_of d x y)) sizes
          (λ d. le_trans _ _ sizes (le₂ ℚ_ordered (λ c s. s) (λ c s. c ⊞ s) (λ c s. le (num 0) c ∷ []) refl _ _ (
            abs_nonneg (sine_of_turn n
                (turn_of d x y +ℚ pos 1 ÷ 2)),
            tt,
          ))
          (both.1.2 (turn_of d x y))) (terms f) in
          let least : v ≤ℚ whole 0 =
          le_trans v (abs v) (whole 0) (le_abs v) (moved ℚ_ordered refl (ap (λ w. whole w *ℚ sizes) none ∙ ring₁ ℚ_ring (λ k. num 0 ⊠ k)
          (λ k. num 0) refl sizes) size) in
          let margin_is : e ≤ℚ v = moved ℚ_ordered (ap (λ w. e *ℚ whole (1 + w)) none ∙ ring₁ ℚ_ring (λ e. e ⊠ num 1) (λ e. e) refl e) refl both.1.1 in
          lt_not_le (whole 0) e positive_slack (le_trans e v (whole 0) margin_is least)
    ]

-- ---- the functions of a word

module _ (at : Written × Written) (units : List Place) (are : AreUnits at units) (w : List ℕ) (word : IsWord w) (few : length w ≤ 24) where
  abbrev last : FormalPoint
  last = centre_of w (length w)

  abbrev height : FormalPoint → ℤ
  height p = height_over (place_of units last) (place_of units p)

  heights_differ : (p q : FormalPoint) → height_over (place_of units last) (place_of units (p -ₚ q)) ≡ height p -ℤ height q
  heights_differ p q =
      let s = place_of units last in
      let a = place_of units p in
      let b = place_of units q in
      ap₂ (λ x y. s.x *ℤ y -ℤ s.y *ℤ x) (place_difference units p q).0 (place_difference units p q).1
      ∙ ring₆ ℤ_ring (λ s t a b c d. s ⊠ (b ⊟ d) ⊟ t ⊠ (a ⊟ c)) (λ s t a b c d. s ⊠ b ⊟ t ⊠ a ⊟ (s ⊠ d ⊟ t ⊠ c)) refl s.x s.y a.x a.y b.x b.y

  weights : (k l c e : ℕ) → IsPlace w k → IsPlace w l
      → whole (weight last) *ℚ (whole (weight (corner_of w (k - 1) c -ₚ corner_of w (l - 1) e)) *ℚ apart) ≤ℚ bound
  weights k l c e h h' =
      let d = corner_of w (k - 1) c -ₚ corner_of w (l - 1) e in
      let first : weight last ≤ 48 = omega (arith, weight-centre w (length w) (omega arith), few) in
      let second : weight d ≤ 48 = omega (arith, weight-corners_apart w (k - 1) (l - 1) c e (omega (arith, h)) (omega (arith, h')), h, h', few) in
      le_trans _ (whole 48 *ℚ (whole 48 *ℚ apart)) bound
      (mul_mono_both (whole (weight last)) (whole 48) (whole (weight d) *ℚ apart) (whole 48 *ℚ apart)
      (mul_nonneg (whole (weight d)) apart (whole_nonneg (weight d)) apart_nonneg) (whole_nonneg 48) (whole_le (weight last) 48 first)
      (mul_mono_both (whole (weight d)) (whole 48) apart apart apart_nonneg (whole_nonneg 48) (whole_le (weight d) 48 second) (le_refl apart)))
      (moved ℚ_ordered refl (ring₁ ℚ_ring (λ m. num 48 ⊠ (num 48 ⊠ m)) (λ m. num 2304 ⊠ m) refl apart) (le_refl (whole 48 *ℚ (whole 48 *ℚ apart))))

  function_near : (k l : ℕ) → IsPlace w k → IsPlace w l
      → IsNumberNear (value at.0) (value at.1) (defining_function last w k l) (height (upper_corner w k) -ℤ height (lower_corner w l))
  unfolding defining_function
  function_near k l h h' =
      let p = upper_corner w k in
      let q = lower_corner w l in
      onward (λ n near.
      moved ℚ_ordered
      (ap (λ z. abs (z -ℚ value_at n (sine_form (conj last *ₚ (p -ₚ q))) (value at.0) (value at.1)))
      (height_in_units (place_of units last) (place_of units (p -ₚ q)) ∙ ap (λ z. in_units z *ℚ unit) (heights_differ p q))) refl
      (le_trans _ _ bound near (weights k l _ _ h h')))
      (height_near (value at.0) (value at.1) units last (p -ₚ q) (known_centre at units are w word few (length w) (omega arith))
      (known_difference at units are w word few (k - 1) (l - 1) _ _ (omega (arith, h)) (omega (arith, h'))))

  is_shift : IsStable w → IsShift w last
  is_shift stable = subst (IsShift w) (ap (λ v. mirrors v zero_point) (sym (take_all (length w) w (omega arith))))
      (shift_from_stable w word.letters word.even_length.even stable)

  -- a corridor
  pub corridor_shown : IsStable w → ((k l : ℕ) → IsPlace w k → IsPlace w l → pos (2 ^ 70) ≤ℤ (height (upper_corner w k) -ℤ height (lower_corner w l)))
      → HasCorridor w (value at.0) (value at.1)
  corridor_shown stable enough = record {
    stable = stable;
    shift = last;
    is_shift = is_shift stable;
    each = λ k l h h'. positive (value at.0) (value at.1) (defining_function last w k l) _ (function_near k l h h') (enough k l h h');
  }

  -- a word that is not clear
  pub not_shown_clear : IsStable w → (k l : ℕ) → IsPlace w k → IsPlace w l → (height (upper_corner w k) -ℤ height (lower_corner w l)) ≤ℤ pos (2 ^ 70)
      → IsClearAtPoint w (value at.0) (value at.1) (slack 40) → ⊥
  not_shown_clear stable k l h h' little clear =
      not_clear (value at.0) (value at.1) (defining_function last w k l) _ (function_near k l h h') little
      (subst (λ v. IsClearFunction (value at.0) (value at.1) (slack 40) (defining_function v w k l))
      (same_shift w clear.shift last clear.is_shift (is_shift stable)) (clear.each k l h h'))

-- ---- the least and the greatest height

module _ (at : Written × Written) (units : List Place) (are : AreUnits at units) (w : List ℕ) (word : IsWord w) (few : length w ≤ 24)
    (uppers lowers : List Place)
    (shift : Place) (room : length uppers ≡ 24) (room' : length lowers ≡ 24)
    (us : (k : ℕ) (z : Place) → k < length w → slice_index_or uppers k z ≡ place_of units (upper_corner w (k + 1)))
    (ls : (k : ℕ) (z : Place) → k < length w → slice_index_or lowers k z ≡ place_of units (lower_corner w (k + 1)))
    (shift_is : shift ≡ place_of units (centre_of w (length w))) where
  abbrev some : Place
  some = record { x = pos 0; y = pos 0 }

  pub shift_small : IsSmallPlace 48 shift
  shift_small = subst (IsSmallPlace 48) (sym shift_is) (centre_small units w (length w) are.small few (omega arith))

  taken : (xs : List Place) → length xs ≡ 24 → length (take (length w) xs) ≡ length w
  taken xs count = omega (arith, length-take (length w) xs, count, few)

  upper_at : (k : ℕ) (z : Place) → k < length w → slice_index_or (take (length w) uppers) k z ≡ place_of units (upper_corner w (k + 1))
  upper_at k z h = get_or-take (length w) uppers k z h ∙ us k z h

  lower_at : (k : ℕ) (z : Place) → k < length w → slice_index_or (take (length w) lowers) k z ≡ place_of units (lower_corner w (k + 1))
  lower_at k z h = get_or-take (length w) lowers k z h ∙ ls k z h

  pub uppers_small : All (IsSmallPlace 48) (take (length w) uppers)
  uppers_small = λ k z h.
      let below : k < length w = omega (arith, h, taken uppers room) in
      subst (IsSmallPlace 48) (sym (upper_at k z below)) (corner_small units w (k + 1 - 1) _ are.small few (omega (arith, below)))

  pub lowers_small : All (IsSmallPlace 48) (take (length w) lowers)
  lowers_small = λ k z h.
      let below : k < length w = omega (arith, h, taken lowers room') in
      subst (IsSmallPlace 48) (sym (lower_at k z below)) (corner_small units w (k + 1 - 1) _ are.small few (omega (arith, below)))

  -- a height that a place has
  abbrev IsMet : List Place → ℤ → Type 0
  IsMet places h = (i : ℕ) × (i < length places) × ((z : Place) → h ≡ height_over shift (slice_index_or places i z))

  pub met_size : (places : List Place) (h : ℤ) → All (IsSmallPlace 48) places → IsMet places h → unsigned_abs h ≤ 2 ^ 126 - 1
  met_size places h small met =
      subst (λ y. unsigned_abs y ≤ 2 ^ 126 - 1) (sym (met.2 some))
      (heights_fit shift (slice_index_or places met.0 some) shift_small (small met.0 some met.1)).size

  -- the heights over the word's own shift
  over_shift : (p : Place) (q : FormalPoint) → p ≡ place_of units q → height_over shift p ≡ height_over (place_of units (centre_of w (length w)))
      (place_of units q)
  over_shift p q is = ap₂ height_over shift_is is

  pub shown : (least greatest : ℤ) → All (λ p. least ≤ℤ height_over shift p) (take (length w) uppers)
      → All (λ p. height_over shift p ≤ℤ greatest) (take (length w) lowers) → pos (2 ^ 70) ≤ℤ (least -ℤ greatest) → IsStable w
      → HasCorridor w (value at.0) (value at.1)
  shown least greatest above below enough stable =
      corridor_shown at units are w word few stable (λ k l h h'.
      let k_is : k - 1 + 1 ≡ k = omega (arith, h) in
      let l_is : l - 1 + 1 ≡ l = omega (arith, h') in
      let inside : k - 1 < length w = omega (arith, h) in
      let inside' : l - 1 < length w = omega (arith, h') in
      let up = subst (λ y. least ≤ℤ y)
      (over_shift (slice_index_or (take (length w) uppers) (k - 1) some) (upper_corner w k)
      (upper_at (k - 1) some inside ∙ ap (λ j. place_of units (upper_corner w j)) k_is)) (above (k - 1) some (omega (arith, inside, taken uppers room))) in
      let low = subst (λ y. y ≤ℤ greatest)
      (over_shift (slice_index_or (take (length w) lowers) (l - 1) some) (lower_corner w l)
      (lower_at (l - 1) some inside' ∙ ap (λ j. place_of units (lower_corner w j)) l_is)) (below (l - 1) some (omega (arith, inside', taken lowers room'))) in
      apart_by least greatest _ _ enough up low)
    where
      apart_by : (a b c d : ℤ) → pos (2 ^ 70) ≤ℤ (a -ℤ b) → a ≤ℤ c → d ≤ℤ b → pos (2 ^ 70) ≤ℤ (c -ℤ d)
      apart_by a b c d h k l = omega (arith, ints, h, k, l)

  pub not_shown : (least greatest : ℤ) → IsMet (take (length w) uppers) least → IsMet (take (length w) lowers) greatest
      → (pos (2 ^ 70) ≤ℤ (least -ℤ greatest) → ⊥) → IsStable w → IsClearAtPoint w (value at.0) (value at.1) (slack 40) → ⊥
  not_shown least greatest met met' less stable =
      let inside : met.0 < length w = omega (arith, met.1, taken uppers room) in
      let inside' : met'.0 < length w = omega (arith, met'.1, taken lowers room') in
      let least_is : least ≡ _ = met.2 some ∙ over_shift _ (upper_corner w (met.0 + 1)) (upper_at met.0 some inside) in
      let greatest_is : greatest ≡ _ = met'.2 some ∙ over_shift _ (lower_corner w (met'.0 + 1)) (lower_at met'.0 some inside') in
      not_shown_clear at units are w word few stable (met.0 + 1) (met'.0 + 1) (omega arith, omega (arith, inside)) (omega arith, omega (arith, inside'))
      (subst₂ (λ a b. (a -ℤ b) ≤ℤ pos (2 ^ 70)) least_is greatest_is (at_most_of least greatest less))
    where
      at_most_of : (a b : ℤ) → (pos (2 ^ 70) ≤ℤ (a -ℤ b) → ⊥) → (a -ℤ b) ≤ℤ pos (2 ^ 70)
      at_most_of a b h = elim (int_order (pos (2 ^ 70)) (a -ℤ b)) [
        | inl more ↦ absurd (h more)
        | inr less ↦ less
      ]
