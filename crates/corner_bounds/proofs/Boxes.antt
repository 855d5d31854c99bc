-- What a word that is clear at the corners of a box has in all of it.
use Rattle.std.proofs.Common.{◌≡◌, refl, sym, subst, subst₂, ℕ, ◌+◌, ◌*◌, ◌^◌, ◌<◌, ◌≤◌, [], ◌∷◌, pos, ◌*ℤ◌, ◌≤ℤ◌, arith}
use Rattle.std.proofs.lemmas.Int.{ints}
use Rattle.std.proofs.Math.Pow.{pow_mono}
use Rattle.std.proofs.lemmas.Nat.{pow_pos}
use Rattle.ring_solver.specs.Expression.{var, num, ◌⊞◌, ◌⊟◌, ◌⊠◌, opp}
use Rattle.ring_solver.specs.Ordered.{le, times, same}
use Rattle.ring_solver.proofs.Solver.{ring₃, ring_by}
use Rattle.ring_solver.proofs.Certificate.{le₃, le₅, certified}
use Rattle.rat_core.specs.Fraction.{ℚ, ◌÷◌, whole, ◌+ℚ◌, ◌-ℚ◌, ◌*ℚ◌, ◌≤ℚ◌, at_most, abs}
use Rattle.rat_core.proofs.Laws.{ℚ_ring, ℚ_ordered, int-add, le_trans, over-mul, over_le}
use Rattle.rat_core.proofs.Order.{whole_nonneg, over_nonneg, over_positive, le_abs, neg_le_abs}
use Rattle.rat_core.proofs.Sizes.{abs_swap}
use Rattle.exp_sums.specs.FormalPoint.{FormalPoint}
use Rattle.exp_sums.specs.Limits.{weight, IsWithin}
use Rattle.exp_sums.specs.Bend.{bend}
use Rattle.trig_meaning.specs.FromSomeOn.{FromSomeOn}
use Rattle.trig_meaning.specs.PartialSums.{pi_sum}
use Rattle.trig_meaning.specs.Value.{value_at, IsPositiveAt}
use Rattle.trig_meaning.proofs.FromSomeOnLaws.{onward, onward_both}
use Rattle.trig_meaning.proofs.SecondOrder.{second_order_lem}
use Rattle.rational_polygon.specs.Point.{Point}
use Rattle.rational_polygon.specs.Square.{Square, dyadic, box_corner, half_side, centre, IsInBox}
use Rattle.rational_polygon.proofs.Centres.{from_start, from_end, near_centre}
use Rattle.defining_functions.specs.Functions.{defining_function}
use Rattle.defining_functions.proofs.Limits.{function_limits}
use Rattle.gradient_bounds.specs.Clear.{margin}
use Rattle.gradient_bounds.specs.CornerClear.{sag, IsCornerClearFunction}
use Rattle.gradient_bounds.proofs.Boxes.{shut_gives_no_corridor_lem}
use Rattle.gradient_bounds.proofs.Within.{corner_within}
use Rattle.corner_bounds.specs.Laws.{CornerGivesCorridor, CornerClearWithLess, ShutIsNotCornerClear}
use Rattle.corner_bounds.proofs.Chords.{IsShare, IsOfSecondOrder}
use Rattle.corner_bounds.proofs.InSquare.{IsIn, Corners, value_in_square}

-- ---- a point of a box

-- the ends of a stretch, from its middle
start_is : (i level : ℕ) → dyadic (i + 0) level ≡ dyadic (2 * i + 1) (level + 1) -ℚ dyadic 1 (level + 1)
start_is i level =
    ring_by ℚ_ring (dyadic (i + 0) level ∷ dyadic (2 * i + 1) (level + 1) ∷ dyadic 1 (level + 1) ∷ []) (var 0) (var 1 ⊟ var 2) (num 1) (var 0 ⊞ var 2) (var 1)
    refl (sym (from_start i level))

-- the share of a way of at most r, where r is 1/d
share_of : (d : ℕ) → 0 < d → (t : ℚ) → abs t ≤ℚ pos 1 ÷ d → IsShare (t *ℚ whole d)
share_of d positive t small =
    let one : (pos 1 ÷ d) *ℚ whole d ≡ whole 1 = over-mul (pos 1) d positive in
    record {
      low = certified ℚ_ordered (t ∷ whole d ∷ (pos 1 ÷ d) ∷ abs t ∷ []) (opp (num 1)) (var 0 ⊠ var 1)
          (times (var 1) (opp (var 0)) (var 3) ∷ times (var 1) (var 3) (var 2) ∷ same (num 1) (var 2 ⊠ var 1) (num 1) ∷ []) refl
          (whole_nonneg d, neg_le_abs t, (whole_nonneg d, small, (one, tt)));
      high = certified ℚ_ordered (t ∷ whole d ∷ (pos 1 ÷ d) ∷ abs t ∷ []) (var 0 ⊠ var 1) (num 1)
          (times (var 1) (var 0) (var 3) ∷ times (var 1) (var 3) (var 2) ∷ same (num 1) (var 2 ⊠ var 1) (num 1) ∷ []) refl
          (whole_nonneg d, le_abs t, (whole_nonneg d, small, (one, tt)));
    }

-- so the point is the middle and that share of r
shared : (d : ℕ) → 0 < d → (p c : ℚ) → c +ℚ ((p -ℚ c) *ℚ whole d) *ℚ (pos 1 ÷ d) ≡ p
shared d positive p c =
    ring_by ℚ_ring (p ∷ c ∷ whole d ∷ (pos 1 ÷ d) ∷ []) (var 1 ⊞ ((var 0 ⊟ var 1) ⊠ var 2) ⊠ var 3) (var 0) (var 0 ⊟ var 1) (var 3 ⊠ var 2) (num 1) refl
    (over-mul (pos 1) d positive)

closed : whole 130 *ℚ (pos 1 ÷ 2 ^ 11) ≤ℚ pos 1 ÷ 8
unfolding at_most ◌*ℚ◌ ◌÷◌
closed = record { le = tt }

-- twice 2^−50
twice_closed : pos 1 ÷ 2 ^ 50 +ℚ pos 1 ÷ 2 ^ 50 ≤ℚ pos 1 ÷ 2 ^ 49
unfolding at_most ◌+ℚ◌ ◌÷◌
twice_closed = record { le = tt }

-- at level 10 or deeper half the side is so small that no direction of a function turns far
deep_small : (level : ℕ) → 10 ≤ level → whole 130 *ℚ (pos 1 ÷ 2 ^ (level + 1)) ≤ℚ pos 1 ÷ 8
deep_small level deep =
    let deeper : 11 ≤ level + 1 = omega (arith, deep) in
    let many : 2 ^ 11 ≤ 2 ^ (level + 1) = pow_mono deeper in
    let less : pos 1 ÷ 2 ^ (level + 1) ≤ℚ pos 1 ÷ 2 ^ 11 = over_le (pos 1) (pos 1) (2 ^ (level + 1)) (2 ^ 11) (pow_pos (level + 1)) (pow_pos 11)
    (order (2 ^ (level + 1)) many) in
    le_trans (whole 130 *ℚ (pos 1 ÷ 2 ^ (level + 1))) (whole 130 *ℚ (pos 1 ÷ 2 ^ 11)) (pos 1 ÷ 8)
    (le₃ ℚ_ordered (λ k x y. k ⊠ x) (λ k x y. k ⊠ y) (λ k x y. times k x y ∷ []) refl (whole 130) (pos 1 ÷ 2 ^ (level + 1)) (pos 1 ÷ 2 ^ 11)
    (whole_nonneg 130, less, tt)) closed
  where
    order : (m : ℕ) → 2 ^ 11 ≤ m → (pos 1 *ℤ pos (2 ^ 11)) ≤ℤ (pos 1 *ℤ pos m)
    order m h = omega (arith, ints)

-- ---- a function

-- the values at the four corners of the box reach the sag and the margin
corners_of : (box : Square) (e : ℚ) (f : FormalPoint) → IsCornerClearFunction box e f
    → FromSomeOn (λ n. Corners n f (centre box).x (centre box).y (half_side box) (sag n box f +ℚ margin e f))
corners_of box e f clear =
    let low = λ (n : ℕ). sag n box f +ℚ margin e f in
    let below_both : FromSomeOn (λ n. (low n ≤ℚ value_at n f (box_corner box 0 0).x (box_corner box 0 0).y)
    × (low n ≤ℚ value_at n f (box_corner box 1 0).x (box_corner box 1 0).y)) =
    onward_both (λ n h k. (h, k)) (clear 0 0 (omega arith) (omega arith)) (clear 1 0 (omega arith) (omega arith)) in
    let above_both : FromSomeOn (λ n. (low n ≤ℚ value_at n f (box_corner box 0 1).x (box_corner box 0 1).y)
    × (low n ≤ℚ value_at n f (box_corner box 1 1).x (box_corner box 1 1).y)) =
    onward_both (λ n h k. (h, k)) (clear 0 1 (omega arith) (omega arith)) (clear 1 1 (omega arith) (omega arith)) in
    onward_both (λ n h k. joined n h.0 h.1 k.0 k.1) below_both above_both
  where
    left : (box_corner box 0 0).x ≡ (centre box).x -ℚ half_side box
    left = start_is box.i box.level

    right : (box_corner box 1 1).x ≡ (centre box).x +ℚ half_side box
    right = from_end box.i box.level

    below : (box_corner box 0 0).y ≡ (centre box).y -ℚ half_side box
    below = start_is box.j box.level

    above : (box_corner box 1 1).y ≡ (centre box).y +ℚ half_side box
    above = from_end box.j box.level

    joined : (n : ℕ) → let low = sag n box f +ℚ margin e f in
        low ≤ℚ value_at n f (box_corner box 0 0).x (box_corner box 0 0).y → low ≤ℚ value_at n f (box_corner box 1 0).x (box_corner box 1 0).y
        → low ≤ℚ value_at n f (box_corner box 0 1).x (box_corner box 0 1).y → low ≤ℚ value_at n f (box_corner box 1 1).x (box_corner box 1 1).y
        → Corners n f (centre box).x (centre box).y (half_side box) low
    joined n first second third fourth =
        let low = sag n box f +ℚ margin e f in
        record {
          below_left = subst₂ (λ u v. low ≤ℚ value_at n f u v) left below first;
          below_right = subst₂ (λ u v. low ≤ℚ value_at n f u v) right below second;
          above_left = subst₂ (λ u v. low ≤ℚ value_at n f u v) left above third;
          above_right = subst₂ (λ u v. low ≤ℚ value_at n f u v) right above fourth;
        }

-- what is left of the margin
remainder : (e z sagged curve v E : ℚ) (w : ℕ) → z ≤ℚ e → E ≤ℚ z → curve ≡ sagged → sagged +ℚ e *ℚ whole (1 + w) -ℚ (curve +ℚ E *ℚ whole w) ≤ℚ v → z ≤ℚ v
remainder e z sagged curve v E w enough small same_sag reach =
    let one : whole (1 + w) ≡ whole 1 +ℚ whole w = int-add (pos 1) (pos w) in
    certified ℚ_ordered (e ∷ z ∷ sagged ∷ curve ∷ v ∷ E ∷ whole w ∷ whole (1 + w) ∷ []) (var 1) (var 4)
    (le (var 2 ⊞ var 0 ⊠ var 7 ⊟ (var 3 ⊞ var 5 ⊠ var 6)) (var 4) ∷ same (var 0) (num 1 ⊞ var 6) (var 7) ∷ same (num 1) (var 3) (var 2)
    ∷ times (num 1 ⊞ var 6) (var 1) (var 0) ∷ times (var 6) (var 5) (var 1) ∷ [])
    refl (reach, (sym one, (same_sag, (more w, enough, (whole_nonneg w, small, tt)))))
  where
    more : (w : ℕ) → whole 0 ≤ℚ whole 1 +ℚ whole w
    more w = subst (λ t. whole 0 ≤ℚ t) (int-add (pos 1) (pos w)) (whole_nonneg (1 + w))

function_is_positive : (box : Square) (e : ℚ) (p : Point) → pos 1 ÷ 2 ^ 49 ≤ℚ e → 10 ≤ box.level → IsInBox box p → (f : FormalPoint) → IsWithin 130 f
    → IsCornerClearFunction box e f → IsPositiveAt f p.x p.y
function_is_positive box e p enough deep within f near clear = (
  pos 1 ÷ 2 ^ 49,
  over_positive 1 (2 ^ 49) (omega arith) (pow_pos 49),
  onward_both at second_order_lem (corners_of box e f clear),
)
  where
    swapped : (c p : ℚ) → abs (c -ℚ p) ≤ℚ half_side box → abs (p -ℚ c) ≤ℚ half_side box
    swapped c p h = subst (λ t. t ≤ℚ half_side box) (abs_swap c p) h

    at : (n : ℕ) → IsOfSecondOrder n → Corners n f (centre box).x (centre box).y (half_side box) (sag n box f +ℚ margin e f)
        → pos 1 ÷ 2 ^ 49 ≤ℚ value_at n f p.x p.y
    at n law corners =
        let near_point = near_centre box p within in
        let a = (p.x -ℚ (centre box).x) *ℚ whole (2 ^ (box.level + 1)) in
        let b = (p.y -ℚ (centre box).y) *ℚ whole (2 ^ (box.level + 1)) in
        let is_in : IsIn 130 (half_side box) a b = record {
          nonneg = over_nonneg 1 (2 ^ (box.level + 1));
          small = deep_small box.level deep;
          across = share_of (2 ^ (box.level + 1)) (pow_pos (box.level + 1)) (p.x -ℚ (centre box).x) (swapped (centre box).x p.x near_point.0);
          up = share_of (2 ^ (box.level + 1)) (pow_pos (box.level + 1)) (p.y -ℚ (centre box).y) (swapped (centre box).y p.y near_point.1);
        } in
        let reach = value_in_square n 130 law f near (centre box).x (centre box).y (half_side box) a b (sag n box f +ℚ margin e f) is_in corners in
        let at_point = subst₂ (λ u v. sag n box f +ℚ margin e f
        -ℚ (whole 2 *ℚ (pi_sum n *ℚ pi_sum n) *ℚ (half_side box *ℚ half_side box) *ℚ whole (bend f) +ℚ (pos 1 ÷ 2 ^ 50 +ℚ pos 1 ÷ 2 ^ 50) *ℚ whole (weight f))
        ≤ℚ value_at n f u v) (shared (2 ^ (box.level + 1)) (pow_pos (box.level + 1)) p.x (centre box).x)
        (shared (2 ^ (box.level + 1)) (pow_pos (box.level + 1)) p.y (centre box).y) reach in
        remainder e (pos 1 ÷ 2 ^ 49) (sag n box f) (whole 2 *ℚ (pi_sum n *ℚ pi_sum n) *ℚ (half_side box *ℚ half_side box) *ℚ whole (bend f))
        (value_at n f p.x p.y)
        (pos 1 ÷ 2 ^ 50 +ℚ pos 1 ÷ 2 ^ 50) (weight f) enough twice_closed
        (ring₃ ℚ_ring (λ p h b. num 2 ⊠ p ⊠ (h ⊠ h) ⊠ b) (λ p h b. num 2 ⊠ p ⊠ (b ⊠ (h ⊠ h))) refl (pi_sum n *ℚ pi_sum n) (half_side box) (whole (bend f)))
        at_point

pub corner_gives_corridor_lem : CornerGivesCorridor
corner_gives_corridor_lem w box e word enough clear p within = record {
  stable = clear.each.stable;
  shift = clear.each.shift;
  is_shift = clear.each.is_shift;
  each = λ k l h h'. function_is_positive box e p enough clear.deep within (defining_function clear.each.shift w k l)
      (function_limits w clear.each.shift word clear.each.is_shift k l h h').within (clear.each.each k l h h');
}

-- ---- a lesser slack

pub corner_clear_with_less_lem : CornerClearWithLess
corner_clear_with_less_lem w box e d less clear = record {
  deep = clear.deep;
  each = record {
    stable = clear.each.stable;
    shift = clear.each.shift;
    is_shift = clear.each.is_shift;
    each = λ k l h h' a b p q. onward
        (λ n reach. weaker (sag n box (defining_function clear.each.shift w k l)) e d (weight (defining_function clear.each.shift w k l)) _ less reach)
        (clear.each.each k l h h' a b p q);
  };
}
  where
    weaker : (s e d : ℚ) (w : ℕ) (v : ℚ) → d ≤ℚ e → s +ℚ e *ℚ whole (1 + w) ≤ℚ v → s +ℚ d *ℚ whole (1 + w) ≤ℚ v
    weaker s e d w v less reach =
        le₅ ℚ_ordered (λ s e d u v. s ⊞ d ⊠ u) (λ s e d u v. v) (λ s e d u v. times u d e ∷ le (s ⊞ e ⊠ u) v ∷ []) refl s e d (whole (1 + w)) v
        (whole_nonneg (1 + w), less, (reach, tt))

-- ---- shut boxes

pub shut_is_not_corner_clear_lem : ShutIsNotCornerClear
shut_is_not_corner_clear_lem w box e d word positive enough shut clear =
    let p = box_corner box 0 0 in
    let here = (corner_within box).0 in
    shut_gives_no_corridor_lem w box e positive shut p here (corner_gives_corridor_lem w box d word enough clear p here)
