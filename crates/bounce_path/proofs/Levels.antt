-- The number in the middle of a gap is a level, and a gap that is too small leaves no room.
use Rattle.std.proofs.Common.{◌≡◌, refl, sym, ap, ap₂, ◌∙◌, subst, ℕ, zero, suc, ◌+◌, ◌-◌, ◌^◌, ◌<◌, List, [], ◌∷◌, length, get_or}
use Rattle.std.proofs.Common.{ℤ, pos, ◌+ℤ◌, ◌-ℤ◌, ◌*ℤ◌, ◌≤ℤ◌, ◌<ℤ◌, arith, lit<, lit≤}
use Rattle.std.proofs.lemmas.Int.{ints}
use Rattle.std.proofs.lemmas.List.{get_or_default}
use borrow.Author.Count.{below_more}
use Rattle.ring_solver.specs.Expression.{num, opp, ◌⊞◌, ◌⊟◌, ◌⊠◌}
use Rattle.ring_solver.specs.Ordered.{le, times, same}
use Rattle.ring_solver.proofs.Solver.{ring₁, ring₃, ring₄}
use Rattle.ring_solver.proofs.Certificate.{le₃, le₄, le₅, le₆, moved, mul_mono}
use Rattle.rat_core.specs.Fraction.{ℚ, ◌÷◌, whole, ◌+ℚ◌, ◌-ℚ◌, ◌*ℚ◌, neg_ℚ, ◌≤ℚ◌, abs}
use Rattle.rat_core.proofs.Laws.{ℚ_ring, ℚ_ordered, le_trans, over-mul, int-add, int-sub, int-mul}
use Rattle.rat_core.proofs.Order.{int_le, int_le_back, whole_le, whole_nonneg, over_positive, cancel_le, abs_le}
use Rattle.edge_words.specs.Letters.{IsPlace}
use Rattle.edge_words.specs.Stable.{IsStable}
use Rattle.exp_sums.specs.FormalPoint.{FormalPoint}
use Rattle.exp_sums.specs.Limits.{weight}
use Rattle.trig_meaning.specs.FromSomeOn.{FromSomeOn}
use Rattle.trig_meaning.specs.Value.{value_at}
use Rattle.trig_meaning.proofs.FromSomeOnLaws.{always, onward, onward_both, somewhere}
use Rattle.unfolding.specs.Shift.{IsShift}
use Rattle.directed_fixed.specs.Ends.{Encloses}
use Rattle.defining_functions.specs.Functions.{defining_function}
use Rattle.gradient_bounds.specs.Clear.{margin, IsClearAtPoint}
use Rattle.gradient_bounds.specs.Corridor.{HasCorridor}
use Rattle.gradient_bounds.proofs.Margins.{slack_units}
use Rattle.bounce_path.specs.declared.crossing.Crossing.{Crossing}
use Rattle.bounce_path.specs.declared.gap.Gap.{Gap}
use Rattle.bounce_path.specs.Crossings.{IsCrossing, AreCrossings, IsGap, IsMiddle, IsWellInside, half_room}
use Rattle.bounce_path.specs.Level.{height_of, upper_at, lower_at, IsLowestUpper, IsHighestLower, IsLevel}
use Rattle.bounce_path.specs.Path.{room_for_path}
use Rattle.bounce_path.proofs.Heights.{value_difference}

-- ---- from some n on

-- what holds of each number below a bound from some n on, holds of all of them from some n on
each_below : (P : ℕ → ℕ → Type 0) (m : ℕ) → ((i : ℕ) → i < m → FromSomeOn (λ n. P n i)) → FromSomeOn (λ n. (i : ℕ) → i < m → P n i)
each_below P zero h = always (λ n i below. absurd (omega (arith, below)))
each_below P (suc m) h =
    onward_both (λ n f p i below. below_more (P n) m f p i (omega (arith, below))) (each_below P m (λ i below. h i (omega (arith, below)))) (h m (omega arith))

-- ---- units

-- a height in units
in_units : (h : ℤ) → height_of h *ℚ whole (2 ^ 60) ≡ h ÷ 1
in_units h = over-mul h (2 ^ 60) (lit< tt)

le_in_units : (a b : ℚ) → a *ℚ whole (2 ^ 60) ≤ℚ b *ℚ whole (2 ^ 60) → a ≤ℚ b
le_in_units a b h = cancel_le (2 ^ 60) (lit< tt) a b h

-- a sum of whole numbers that is at most another
sum_le : (a b h : ℤ) → (a +ℤ b) ≤ℤ h → a ÷ 1 +ℚ b ÷ 1 ≤ℚ h ÷ 1
sum_le a b h below = moved ℚ_ordered (int-add a b) refl (int_le (a +ℤ b) h below)

le_sum : (a b h : ℤ) → h ≤ℤ (a +ℤ b) → h ÷ 1 ≤ℚ a ÷ 1 +ℚ b ÷ 1
le_sum a b h below = moved ℚ_ordered refl (int-add a b) (int_le h (a +ℤ b) below)

-- a height that lies by m above what is at least L
below_height : (L : ℚ) (a m h : ℤ) → L *ℚ whole (2 ^ 60) ≤ℚ a ÷ 1 → (a +ℤ m) ≤ℤ h → L +ℚ height_of m ≤ℚ height_of h
below_height L a m h low room =
    le_in_units (L +ℚ height_of m) (height_of h)
    (moved ℚ_ordered refl (sym (in_units h))
    (le₆ ℚ_ordered (λ L e u a m h. (L ⊞ e) ⊠ u) (λ L e u a m h. h) (λ L e u a m h. le (L ⊠ u) a ∷ same (num 1) (e ⊠ u) m ∷ le (a ⊞ m) h ∷ []) refl
    L (height_of m) (whole (2 ^ 60)) (a ÷ 1) (m ÷ 1) (h ÷ 1) (low, (in_units m, (sum_le a m h room, tt)))))

-- a height that lies by m below what is at most U
above_height : (U : ℚ) (b m h : ℤ) → b ÷ 1 ≤ℚ U *ℚ whole (2 ^ 60) → (h +ℤ m) ≤ℤ b → height_of h +ℚ height_of m ≤ℚ U
above_height U b m h high room =
    le_in_units (height_of h +ℚ height_of m) U
    (moved ℚ_ordered
    (sym (ring₃ ℚ_ring (λ s e u. (s ⊞ e) ⊠ u) (λ s e u. s ⊠ u ⊞ e ⊠ u) refl (height_of h) (height_of m) (whole (2 ^ 60)) ∙ ap₂ ◌+ℚ◌ (in_units h)
    (in_units m))) refl
    (le_trans (h ÷ 1 +ℚ m ÷ 1) (b ÷ 1) (U *ℚ whole (2 ^ 60)) (sum_le h m b room) high))

-- 2^−35 in units
little : (pos 1 ÷ 2 ^ 35) *ℚ whole (2 ^ 60) ≡ whole (2 ^ 25)
little =
    ap (λ k. (pos 1 ÷ 2 ^ 35) *ℚ k) (int-mul (pos (2 ^ 35)) (pos (2 ^ 25)))
    ∙ ring₃ ℚ_ring (λ a b c. a ⊠ (b ⊠ c)) (λ a b c. a ⊠ b ⊠ c) refl (pos 1 ÷ 2 ^ 35) (whole (2 ^ 35)) (whole (2 ^ 25))
    ∙ ap (λ k. k *ℚ whole (2 ^ 25)) (over-mul (pos 1) (2 ^ 35) (lit< tt))
    ∙ ring₁ ℚ_ring (λ c. num 1 ⊠ c) (λ c. c) refl (whole (2 ^ 25))

-- twice a height and the sum of two others, within 2^24 units
near_middle : (h a b : ℤ) (U L : ℚ) → a ÷ 1 ≤ℚ L *ℚ whole (2 ^ 60) → L *ℚ whole (2 ^ 60) ≤ℚ a ÷ 1 +ℚ whole (2 ^ 23)
    → b ÷ 1 ≤ℚ U *ℚ whole (2 ^ 60) → U *ℚ whole (2 ^ 60) ≤ℚ b ÷ 1 +ℚ whole (2 ^ 23) → (pos 2 *ℤ h) ≤ℤ (a +ℤ b +ℤ pos (2 ^ 24))
    → (a +ℤ b) ≤ℤ (pos 2 *ℤ h +ℤ pos 1) → abs (whole 2 *ℚ height_of h -ℚ (U +ℚ L)) ≤ℚ pos 1 ÷ 2 ^ 35
near_middle h a b U L L_low L_high U_low U_high high low =
    abs_le t (pos 1 ÷ 2 ^ 35)
    (le_in_units t (pos 1 ÷ 2 ^ 35)
    (moved ℚ_ordered (sym t_is) (sym little)
    (le₅ ℚ_ordered (λ h a b l u. num 2 ⊠ h ⊟ (u ⊞ l)) (λ h a b l u. num (2 ^ 25))
    (λ h a b l u. le (num 2 ⊠ h) (a ⊞ b ⊞ num (2 ^ 24)) ∷ le a l ∷ le b u ∷ le (num 0) (num (2 ^ 24)) ∷ []) refl (h ÷ 1) (a ÷ 1) (b ÷ 1) l u
    (twice_below, (L_low, (U_low, (whole_nonneg (2 ^ 24), tt)))))))
    (le_in_units (neg_ℚ t) (pos 1 ÷ 2 ^ 35)
    (moved ℚ_ordered (sym neg_is) (sym little)
    (le₅ ℚ_ordered (λ h a b l u. u ⊞ l ⊟ num 2 ⊠ h) (λ h a b l u. num (2 ^ 25))
    (λ h a b l u. le (a ⊞ b) (num 2 ⊠ h ⊞ num 1) ∷ le l (a ⊞ num (2 ^ 23)) ∷ le u (b ⊞ num (2 ^ 23)) ∷ le (num 1) (num (2 ^ 24)) ∷ []) refl
    (h ÷ 1) (a ÷ 1) (b ÷ 1) l u (twice_above, (L_high, (U_high, (whole_le 1 (2 ^ 24) (lit≤ tt), tt)))))))
  where
    k : ℚ
    k = whole (2 ^ 60)

    t : ℚ
    t = whole 2 *ℚ height_of h -ℚ (U +ℚ L)

    l : ℚ
    l = L *ℚ k

    u : ℚ
    u = U *ℚ k

    t_is : t *ℚ k ≡ whole 2 *ℚ (h ÷ 1) -ℚ (u +ℚ l)
    t_is = ring₄ ℚ_ring (λ s u l k. (num 2 ⊠ s ⊟ (u ⊞ l)) ⊠ k) (λ s u l k. num 2 ⊠ (s ⊠ k) ⊟ (u ⊠ k ⊞ l ⊠ k)) refl (height_of h) U L k
        ∙ ap (λ s. whole 2 *ℚ s -ℚ (u +ℚ l)) (in_units h)

    neg_is : neg_ℚ t *ℚ k ≡ u +ℚ l -ℚ whole 2 *ℚ (h ÷ 1)
    neg_is = ring₄ ℚ_ring (λ s u l k. opp (num 2 ⊠ s ⊟ (u ⊞ l)) ⊠ k) (λ s u l k. u ⊠ k ⊞ l ⊠ k ⊟ num 2 ⊠ (s ⊠ k)) refl (height_of h) U L k
        ∙ ap (λ s. u +ℚ l -ℚ whole 2 *ℚ s) (in_units h)

    twice_below : whole 2 *ℚ (h ÷ 1) ≤ℚ a ÷ 1 +ℚ b ÷ 1 +ℚ whole (2 ^ 24)
    twice_below = moved ℚ_ordered (int-mul (pos 2) h) (int-add (a +ℤ b) (pos (2 ^ 24)) ∙ ap (λ s. s +ℚ whole (2 ^ 24)) (int-add a b))
        (int_le (pos 2 *ℤ h) (a +ℤ b +ℤ pos (2 ^ 24)) high)

    twice_above : a ÷ 1 +ℚ b ÷ 1 ≤ℚ whole 2 *ℚ (h ÷ 1) +ℚ whole 1
    twice_above = moved ℚ_ordered (int-add a b) (int-add (pos 2 *ℤ h) (pos 1) ∙ ap (λ s. s +ℚ whole 1) (int-mul (pos 2) h))
        (int_le (a +ℤ b) (pos 2 *ℤ h +ℤ pos 1) low)

-- ---- crossings

-- the heights of the k-th corners lie between the ends, by the n-th approximation
pub record IsHeld (v : FormalPoint) (w : List ℕ) (x y : ℚ) (n k : ℕ) (c : Crossing) : Type 0 where
  pub upper : Encloses 60 c.upper (upper_at v w x y n k)
  pub lower : Encloses 60 c.lower (lower_at v w x y n k)

abbrev pub blank : Crossing
blank = record { edge = 0; upper = record { lo = pos 0; hi = pos 0 }; lower = record { lo = pos 0; hi = pos 0 } }

-- the k-th crossing
abbrev pub crossing_at : List Crossing → ℕ → Crossing
crossing_at cs k = get_or cs (k - 1) blank

module _ (w : List ℕ) (x y : ℚ) (cs : List Crossing) (are : AreCrossings w x y cs) where
  pub crossing_is : (k : ℕ) → IsPlace w k → IsCrossing w x y k (crossing_at cs k)
  crossing_is k place =
      let i = k - 1 in
      let next : i + 1 ≡ k = omega (arith, place) in
      subst (λ j. IsCrossing w x y j (get_or cs i blank)) next (are.each i blank (omega (arith, place)))

  module _ (v : FormalPoint) (shift : IsShift w v) where
    held_at : (i : ℕ) → i < length w → FromSomeOn (λ n. IsHeld v w x y n (i + 1) (get_or cs i blank))
    held_at i below =
        let c = are.each i blank below in
        onward_both (λ n u l. record { upper = u; lower = l }) (c.upper v shift) (c.lower v shift)

    -- all crossings at once
    pub held : FromSomeOn (λ n. (k : ℕ) → IsPlace w k → IsHeld v w x y n k (crossing_at cs k))
    held = onward each_place (each_below (λ n i. IsHeld v w x y n (i + 1) (get_or cs i blank)) (length w) held_at)
      where
        each_place : (n : ℕ) → ((i : ℕ) → i < length w → IsHeld v w x y n (i + 1) (get_or cs i blank)) → (k : ℕ) → IsPlace w k
            → IsHeld v w x y n k (crossing_at cs k)
        each_place n f k place =
            let next : k - 1 + 1 ≡ k = omega (arith, place) in
            subst (λ j. IsHeld v w x y n j (crossing_at cs k)) next (f (k - 1) (omega (arith, place)))

-- ---- gaps

-- where the lowest upper corner and the highest lower one stand, by the ends
pub record HasExtremes (w : List ℕ) (cs : List Crossing) (g : Gap) : Type 0 where
  pub top : ℕ
  pub is_top : IsPlace w top
  pub ceiling : (crossing_at cs top).upper.lo ≡ g.ceiling
  pub bottom : ℕ
  pub is_bottom : IsPlace w bottom
  pub floor : (crossing_at cs bottom).lower.hi ≡ g.floor
  pub above : (k : ℕ) → IsPlace w k → g.ceiling ≤ℤ (crossing_at cs k).upper.lo
  pub below : (k : ℕ) → IsPlace w k → (crossing_at cs k).lower.hi ≤ℤ g.floor

pub extremes : (w : List ℕ) (cs : List Crossing) (g : Gap) → length cs ≡ length w → IsGap cs g → HasExtremes w cs g
extremes w cs g count gap =
    let top = gap.ceiling_one in
    let bottom = gap.floor_one in
    record {
      top = top.0 + 1;
      is_top = (omega arith, omega (arith, top.2, count));
      ceiling = subst (λ (c : Crossing). c.upper.lo ≡ g.ceiling) (sym (found top.0 top.1 top.2 top.3)) top.4;
      bottom = bottom.0 + 1;
      is_bottom = (omega arith, omega (arith, bottom.2, count));
      floor = subst (λ (c : Crossing). c.lower.hi ≡ g.floor) (sym (found bottom.0 bottom.1 bottom.2 bottom.3)) bottom.4;
      above = λ k place. gap.ceiling_all (k - 1) blank (omega (arith, place, count));
      below = λ k place. gap.floor_all (k - 1) blank (omega (arith, place, count));
    }
  where
    found : (i : ℕ) (c : Crossing) → i < length cs → get_or cs i c ≡ c → crossing_at cs (i + 1) ≡ c
    found i c below is =
        let back : i + 1 - 1 ≡ i = omega arith in
        ap (λ j. get_or cs j blank) back ∙ get_or_default cs i blank c below ∙ is

-- the ends of the k-th upper and the l-th lower corner, seen from a gap
module _ (w : List ℕ) (x y : ℚ) (cs : List Crossing) (are : AreCrossings w x y cs) (g : Gap) (ext : HasExtremes w cs g) (v : FormalPoint) (n : ℕ)
    (holds : (k : ℕ) → IsPlace w k → IsHeld v w x y n k (crossing_at cs k)) where
  upper_from : (k : ℕ) → IsPlace w k → g.ceiling ÷ 1 ≤ℚ upper_at v w x y n k *ℚ whole (2 ^ 60)
  upper_from k place =
      let c = crossing_at cs k in
      le_trans (g.ceiling ÷ 1) (c.upper.lo ÷ 1) (upper_at v w x y n k *ℚ whole (2 ^ 60)) (int_le g.ceiling c.upper.lo (ext.above k place))
      (holds k place).upper.low

  lower_to : (k : ℕ) → IsPlace w k → lower_at v w x y n k *ℚ whole (2 ^ 60) ≤ℚ g.floor ÷ 1
  lower_to k place =
      let c = crossing_at cs k in
      le_trans (lower_at v w x y n k *ℚ whole (2 ^ 60)) (c.lower.hi ÷ 1) (g.floor ÷ 1) (holds k place).lower.high (int_le c.lower.hi g.floor
      (ext.below k place))

  top_to : upper_at v w x y n ext.top *ℚ whole (2 ^ 60) ≤ℚ g.ceiling ÷ 1 +ℚ whole (2 ^ 23)
  top_to =
      let c = crossing_at cs ext.top in
      let narrow = (crossing_is w x y cs are ext.top ext.is_top).near.upper.narrow in
      le_trans (upper_at v w x y n ext.top *ℚ whole (2 ^ 60)) (c.upper.hi ÷ 1) (g.ceiling ÷ 1 +ℚ whole (2 ^ 23)) (holds ext.top ext.is_top).upper.high
      (le_sum g.ceiling (pos (2 ^ 23)) c.upper.hi (subst (λ z. c.upper.hi ≤ℤ (z +ℤ pos (2 ^ 23))) ext.ceiling narrow))

  bottom_from : g.floor ÷ 1 ≤ℚ lower_at v w x y n ext.bottom *ℚ whole (2 ^ 60) +ℚ whole (2 ^ 23)
  bottom_from =
      let c = crossing_at cs ext.bottom in
      let narrow = (crossing_is w x y cs are ext.bottom ext.is_bottom).near.lower.narrow in
      le₄ ℚ_ordered (λ f l u m. f) (λ f l u m. u ⊞ m) (λ f l u m. le f (l ⊞ m) ∷ le l u ∷ []) refl (g.floor ÷ 1) (c.lower.lo ÷ 1)
      (lower_at v w x y n ext.bottom *ℚ whole (2 ^ 60)) (whole (2 ^ 23)) (
        le_sum c.lower.lo (pos (2 ^ 23)) g.floor (subst (λ z. z ≤ℤ (c.lower.lo +ℤ pos (2 ^ 23))) ext.floor narrow),
        ((holds ext.bottom ext.is_bottom).lower.low, tt),
      )

  -- a corner that is as low as that one, and one that is as high
  lowest_to : (k : ℕ) → upper_at v w x y n k ≤ℚ upper_at v w x y n ext.top → upper_at v w x y n k *ℚ whole (2 ^ 60) ≤ℚ g.ceiling ÷ 1 +ℚ whole (2 ^ 23)
  lowest_to k lower =
      le₄ ℚ_ordered (λ a b k c. a ⊠ k) (λ a b k c. c) (λ a b k c. times k a b ∷ le (b ⊠ k) c ∷ []) refl (upper_at v w x y n k) (upper_at v w x y n ext.top)
      (whole (2 ^ 60)) (g.ceiling ÷ 1 +ℚ whole (2 ^ 23)) (whole_nonneg (2 ^ 60), lower, (top_to, tt))

  highest_from : (k : ℕ) → lower_at v w x y n ext.bottom ≤ℚ lower_at v w x y n k → g.floor ÷ 1 ≤ℚ lower_at v w x y n k *ℚ whole (2 ^ 60) +ℚ whole (2 ^ 23)
  highest_from k higher =
      le₅ ℚ_ordered (λ a b k f m. f) (λ a b k f m. b ⊠ k ⊞ m) (λ a b k f m. times k a b ∷ le f (a ⊠ k ⊞ m) ∷ []) refl (lower_at v w x y n ext.bottom)
      (lower_at v w x y n k) (whole (2 ^ 60)) (g.floor ÷ 1) (whole (2 ^ 23)) (whole_nonneg (2 ^ 60), higher, (bottom_from, tt))

  -- the height in the middle, by the n-th approximation
  middle_at : (h : ℤ) → IsMiddle g h → (k l : ℕ) → IsPlace w k → IsPlace w l → IsLowestUpper v w x y n k → IsHighestLower v w x y n l
      → abs (whole 2 *ℚ height_of h -ℚ (upper_at v w x y n k +ℚ lower_at v w x y n l)) ≤ℚ pos 1 ÷ 2 ^ 35
  middle_at h is k l k_place l_place lowest highest =
      let a = g.floor -ℤ pos (2 ^ 23) in
      let u = whole (2 ^ 60) in
      let L = lower_at v w x y n l in
      let U = upper_at v w x y n k in
      let from = highest_from l (highest ext.bottom ext.is_bottom) in
      let a_is : a ÷ 1 ≡ g.floor ÷ 1 -ℚ whole (2 ^ 23) = int-sub g.floor (pos (2 ^ 23)) in
      near_middle h a g.ceiling U L
      (moved ℚ_ordered (sym a_is) refl
      (le₃ ℚ_ordered (λ f m l. f ⊟ m) (λ f m l. l) (λ f m l. le f (l ⊞ m) ∷ []) refl (g.floor ÷ 1) (whole (2 ^ 23)) (L *ℚ u) (from, tt)))
      (moved ℚ_ordered refl (ap (λ t. t +ℚ whole (2 ^ 23)) (sym a_is))
      (le₃ ℚ_ordered (λ f m l. l) (λ f m l. f ⊟ m ⊞ m) (λ f m l. le l f ∷ []) refl (g.floor ÷ 1) (whole (2 ^ 23)) (L *ℚ u) (lower_to l l_place, tt)))
      (upper_from k k_place) (lowest_to k (lowest ext.top ext.is_top)) (low g.floor g.ceiling h is.low) (high g.floor g.ceiling h is.high)
    where
      low : (a b h : ℤ) → (pos 2 *ℤ h) ≤ℤ (a +ℤ b) → (pos 2 *ℤ h) ≤ℤ (a -ℤ pos (2 ^ 23) +ℤ b +ℤ pos (2 ^ 24))
      low a b h below = omega (arith, ints, below)

      high : (a b h : ℤ) → (a +ℤ b) ≤ℤ (pos 2 *ℤ h +ℤ pos 1) → (a -ℤ pos (2 ^ 23) +ℤ b) ≤ℤ (pos 2 *ℤ h +ℤ pos 1)
      high a b h below = omega (arith, ints, below)

-- ---- the level

pub inside_gap : (a b h c d : ℤ) → (a +ℤ pos (2 ^ 40 - 2 ^ 24)) ≤ℤ b → (pos 2 *ℤ h) ≤ℤ (a +ℤ b) → (a +ℤ b) ≤ℤ (pos 2 *ℤ h +ℤ pos 1) → c ≤ℤ a → b ≤ℤ d
    → ((c +ℤ pos half_room) ≤ℤ h) × ((h +ℤ pos half_room) ≤ℤ d)
inside_gap a b h c d room low high below above = (omega (arith, ints, room, low, high, below), omega (arith, ints, room, low, high, above))

module _ (w : List ℕ) (x y : ℚ) (cs : List Crossing) (are : AreCrossings w x y cs) (g : Gap) (ext : HasExtremes w cs g) (h : ℤ) (is : IsMiddle g h) where
  pub well_inside : (k : ℕ) → IsPlace w k → IsWellInside (crossing_at cs k) h
  well_inside k place =
      let c = crossing_at cs k in
      let both = inside_gap g.floor g.ceiling h c.lower.hi c.upper.lo is.room is.low is.high (ext.below k place) (ext.above k place) in
      record { low = both.0; high = both.1 }

  module _ (v : FormalPoint) (shift : IsShift w v) where
    pub is_level : IsLevel v w x y h
    is_level = record {
      middle = onward (λ n holds. middle_at w x y cs are g ext v n holds h is) (held w x y cs are v shift);
      between = (
        height_of (pos half_room),
        over_positive half_room (2 ^ 60) (lit< tt) (lit< tt),
        onward (λ n holds k place. (
          below_height (lower_at v w x y n k) (crossing_at cs k).lower.hi (pos half_room) h (holds k place).lower.high (well_inside k place).low,
          above_height (upper_at v w x y n k) (crossing_at cs k).upper.lo (pos half_room) h (holds k place).upper.low (well_inside k place).high,
        )) (held w x y cs are v shift),
      );
    }

    -- there is a corridor
    pub is_open : IsStable w → HasCorridor w x y
    is_open stable = record {
      stable = stable;
      shift = v;
      is_shift = shift;
      each = λ k l p q. (
        height_of (pos (2 ^ 40 - 2 ^ 24)),
        over_positive (2 ^ 40 - 2 ^ 24) (2 ^ 60) (lit< tt) (lit< tt),
        onward (λ n holds. positive_at n holds k l p q) (held w x y cs are v shift),
      );
    }
      where
        positive_at : (n : ℕ) → ((k : ℕ) → IsPlace w k → IsHeld v w x y n k (crossing_at cs k)) → (k l : ℕ) → IsPlace w k → IsPlace w l
            → height_of (pos (2 ^ 40 - 2 ^ 24)) ≤ℚ value_at n (defining_function v w k l) x y
        positive_at n holds k l p q =
            let e = height_of (pos (2 ^ 40 - 2 ^ 24)) in
            let U = upper_at v w x y n k in
            let L = lower_at v w x y n l in
            let u = whole (2 ^ 60) in
            moved ℚ_ordered refl (sym (value_difference n v w k l x y))
            (le_in_units e (U -ℚ L)
            (moved ℚ_ordered (sym (in_units (pos (2 ^ 40 - 2 ^ 24)))) (ring₃ ℚ_ring (λ a b u. a ⊠ u ⊟ b ⊠ u) (λ a b u. (a ⊟ b) ⊠ u) refl U L u)
            (le₅ ℚ_ordered (λ e c f a b. e) (λ e c f a b. a ⊟ b) (λ e c f a b. le (f ⊞ e) c ∷ le c a ∷ le b f ∷ []) refl (whole (2 ^ 40 - 2 ^ 24))
            (g.ceiling ÷ 1)
            (g.floor ÷ 1) (U *ℚ u) (L *ℚ u) (
              sum_le g.floor (pos (2 ^ 40 - 2 ^ 24)) g.ceiling is.room,
              (upper_from w x y cs are g ext v n holds k p, (lower_to w x y cs are g ext v n holds l q, tt)),
            ))))

-- ---- no room

-- where the gap is too small, the word is not clear
pub not_clear : (w : List ℕ) (x y : ℚ) (cs : List Crossing) (g : Gap) → AreCrossings w x y cs → HasExtremes w cs g
    → g.ceiling <ℤ (g.floor +ℤ pos (2 ^ 40 - 2 ^ 24)) → ¬ (IsClearAtPoint w x y room_for_path)
not_clear w x y cs g are ext narrow clear =
    let v = clear.shift in
    let f = defining_function v w ext.top ext.bottom in
    let both = somewhere (onward_both (λ n reaches holds. room_at n holds reaches) (clear.each ext.top ext.bottom ext.is_top ext.is_bottom)
    (held w x y cs are v clear.is_shift)) in
    clash g.floor g.ceiling narrow (int_le_back (g.floor +ℤ pos (2 ^ 40)) (g.ceiling +ℤ pos (2 ^ 24)) both.1)
  where
    clash : (a b : ℤ) → b <ℤ (a +ℤ pos (2 ^ 40 - 2 ^ 24)) → (a +ℤ pos (2 ^ 40)) ≤ℤ (b +ℤ pos (2 ^ 24)) → ⊥
    clash a b h k = omega (arith, ints, h, k)

    room_at : (n : ℕ) → ((k : ℕ) → IsPlace w k → IsHeld clear.shift w x y n k (crossing_at cs k))
        → margin room_for_path (defining_function clear.shift w ext.top ext.bottom) ≤ℚ value_at n (defining_function clear.shift w ext.top ext.bottom) x y
        → (g.floor +ℤ pos (2 ^ 40)) ÷ 1 ≤ℚ (g.ceiling +ℤ pos (2 ^ 24)) ÷ 1
    room_at n holds reaches =
        let v = clear.shift in
        let f = defining_function v w ext.top ext.bottom in
        let U = upper_at v w x y n ext.top in
        let L = lower_at v w x y n ext.bottom in
        let u = whole (2 ^ 60) in
        let m = margin room_for_path f in
        let one = whole (1 + weight f) in
        let m_is : m *ℚ u ≡ whole (2 ^ 40) *ℚ one = slack_units 60 20 one (lit≤ tt) in
        let scaled : whole (2 ^ 40) *ℚ one ≤ℚ U *ℚ u -ℚ L *ℚ u =
        moved ℚ_ordered m_is (ring₃ ℚ_ring (λ a b u. u ⊠ (a ⊟ b)) (λ a b u. a ⊠ u ⊟ b ⊠ u) refl U L u)
        (moved ℚ_ordered (ℚ_ring.mul_comm u m) refl
        (mul_mono ℚ_ordered u m (U -ℚ L) (whole_nonneg (2 ^ 60)) (moved ℚ_ordered refl (value_difference n v w ext.top ext.bottom x y) reaches))) in
        moved ℚ_ordered (sym (int-add g.floor (pos (2 ^ 40)))) (sym (int-add g.ceiling (pos (2 ^ 24))))
        (le₅ ℚ_ordered (λ o f c a b. f ⊞ num (2 ^ 40)) (λ o f c a b. c ⊞ num (2 ^ 24))
        (λ o f c a b.
        times (num (2 ^ 40)) (num 1) o ∷ le (num (2 ^ 40) ⊠ o) (a ⊟ b) ∷ le a (c ⊞ num (2 ^ 23)) ∷ le f (b ⊞ num (2 ^ 23)) ∷ []) refl
        one (g.floor ÷ 1) (g.ceiling ÷ 1) (U *ℚ u) (L *ℚ u) (
          whole_nonneg (2 ^ 40),
          whole_le 1 (1 + weight f) (omega arith),
          (
            scaled,
            (top_to w x y cs are g ext v n holds, (bottom_from w x y cs are g ext v n holds, tt)),
          ),
        ))
