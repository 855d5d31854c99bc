-- A word that is shut on a box is shut on each box within it.
use Rattle.std.proofs.Common.{◌≡◌, refl, ℕ, ◌+◌, ◌*◌, ◌^◌, [], ◌∷◌, arith}
use Rattle.std.proofs.Math.Pow.{pow_pos}
use Rattle.ring_solver.specs.Expression.{num, ◌⊞◌, ◌⊟◌, ◌⊠◌, opp}
use Rattle.ring_solver.specs.Ordered.{le, same}
use Rattle.ring_solver.proofs.Solver.{ring₄}
use Rattle.ring_solver.proofs.Certificate.{le₆, moved}
use Rattle.rat_core.specs.Fraction.{ℚ, whole, neg_ℚ, ◌+ℚ◌, ◌-ℚ◌, ◌*ℚ◌, ◌≤ℚ◌, abs}
use Rattle.rat_core.proofs.Laws.{ℚ_ring, ℚ_ordered, le_refl}
use Rattle.rat_core.proofs.Order.{abs_le, neg_le_abs}
use Rattle.rat_core.proofs.Quotients.{over_mono}
use Rattle.exp_sums.specs.FormalPoint.{FormalPoint}
use Rattle.exp_sums.specs.Reach.{reach}
use Rattle.trig_meaning.specs.PartialSums.{pi_sum}
use Rattle.trig_meaning.proofs.FromSomeOnLaws.{onward_both}
use Rattle.trig_meaning.proofs.PiSums.{pi_nonneg}
use Rattle.trig_meaning.proofs.Lipschitz.{sine_is_lipschitz_lem}
use Rattle.trig_meaning.proofs.Gradient.{value_is_steep}
use Rattle.rational_polygon.specs.Point.{Point}
use Rattle.rational_polygon.specs.Square.{Square, child, dyadic, box_corner, half_side, centre, IsInBox}
use Rattle.rational_polygon.proofs.Centres.{from_start, from_end}
use Rattle.rational_polygon.proofs.Halves.{child_within}
use Rattle.defining_functions.specs.Functions.{defining_function}
use Rattle.gradient_bounds.specs.Clear.{margin, central_value, IsShutFunctionOn}
use Rattle.gradient_bounds.specs.Laws.{ShutGoesDown, ShutGoesToChildren, ShutIsNotClear}
use Rattle.gradient_bounds.proofs.Boxes.{clear_gives_corridor_lem, shut_gives_no_corridor_lem}

-- The middle of a stretch within another lies so near the other's middle that the halves have room.
middles : (i l j m : ℕ) → dyadic (i + 0) l ≤ℚ dyadic (j + 0) m → dyadic (j + 1) m ≤ℚ dyadic (i + 1) l
    → abs (dyadic (2 * i + 1) (l + 1) -ℚ dyadic (2 * j + 1) (m + 1)) ≤ℚ dyadic 1 (l + 1) -ℚ dyadic 1 (m + 1)
middles i l j m low high =
    let c = dyadic (2 * i + 1) (l + 1) in
    let d = dyadic (2 * j + 1) (m + 1) in
    let h = dyadic 1 (l + 1) in
    let k = dyadic 1 (m + 1) in
    abs_le (c -ℚ d) (h -ℚ k)
    (le₆ ℚ_ordered (λ a b c d h k. c ⊟ d) (λ a b c d h k. h ⊟ k)
    (λ a b c d h k. le a b ∷ same (opp (num 1)) d (b ⊞ k) ∷ same (num 1) c (a ⊞ h) ∷ []) refl
    (dyadic (i + 0) l) (dyadic (j + 0) m) c d h k (low, (from_start j m, (from_start i l, tt))))
    (le₆ ℚ_ordered (λ a b c d h k. opp (c ⊟ d)) (λ a b c d h k. h ⊟ k)
    (λ a b c d h k. le b a ∷ same (num 1) a (c ⊞ h) ∷ same (opp (num 1)) b (d ⊞ k) ∷ []) refl
    (dyadic (i + 1) l) (dyadic (j + 1) m) c d h k (high, (from_end i l, (from_end j m, tt))))

-- the lower left and the upper right corner of a box lie in it
pub corner_within : (box : Square) → IsInBox box (box_corner box 0 0) × IsInBox box (box_corner box 1 1)
corner_within box =
    let across = rises box.i box.level in
    let up = rises box.j box.level in (
      record { left = le_refl (dyadic (box.i + 0) box.level); right = across; below = le_refl (dyadic (box.j + 0) box.level); above = up },
      record { left = across; right = le_refl (dyadic (box.i + 1) box.level); below = up; above = le_refl (dyadic (box.j + 1) box.level) },
    )
  where
    rises : (i l : ℕ) → dyadic (i + 0) l ≤ℚ dyadic (i + 1) l
    rises i l = over_mono (i + 0) (i + 1) (2 ^ l) (pow_pos l) (omega arith)

-- the centre of a box within another is near the other's centre
near_centres : (outer inner : Square) → ((p : Point) → IsInBox inner p → IsInBox outer p)
    → (abs ((centre outer).x -ℚ (centre inner).x) ≤ℚ half_side outer -ℚ half_side inner)
    × (abs ((centre outer).y -ℚ (centre inner).y) ≤ℚ half_side outer -ℚ half_side inner)
near_centres outer inner within =
    let corners = corner_within inner in
    let low = within (box_corner inner 0 0) corners.0 in
    let high = within (box_corner inner 1 1) corners.1 in
    (middles outer.i outer.level inner.i inner.level low.left high.right, middles outer.j outer.level inner.j inner.level low.below high.above)

-- what is lost by the way is won back by the smaller drift
still_shut : (p r h k m c v : ℚ) → abs (c -ℚ v) ≤ℚ p *ℚ (r *ℚ (h -ℚ k)) → c ≤ℚ neg_ℚ (p *ℚ (r *ℚ h) +ℚ m) → v ≤ℚ neg_ℚ (p *ℚ (r *ℚ k) +ℚ m)
still_shut p r h k m c v near shut =
    let parts : p *ℚ (r *ℚ (h -ℚ k)) ≡ p *ℚ (r *ℚ h) -ℚ p *ℚ (r *ℚ k) =
    ring₄ ℚ_ring (λ p r h k. p ⊠ (r ⊠ (h ⊟ k))) (λ p r h k. p ⊠ (r ⊠ h) ⊟ p ⊠ (r ⊠ k)) refl p r h k
    in
    le₆ ℚ_ordered (λ d e m c v a. v) (λ d e m c v a. opp (e ⊞ m))
    (λ d e m c v a. le (opp (c ⊟ v)) a ∷ le a (d ⊟ e) ∷ le c (opp (d ⊞ m)) ∷ []) refl
    (p *ℚ (r *ℚ h)) (p *ℚ (r *ℚ k)) m c v (abs (c -ℚ v)) (neg_le_abs (c -ℚ v), (moved ℚ_ordered refl parts near, (shut, tt)))

shut_function_goes_down : (outer inner : Square) (e : ℚ) (f : FormalPoint) → ((p : Point) → IsInBox inner p → IsInBox outer p)
    → IsShutFunctionOn outer e f → IsShutFunctionOn inner e f
shut_function_goes_down outer inner e f within shut =
    let near = near_centres outer inner within in
    let room = half_side outer -ℚ half_side inner in
    onward_both
    (λ n change low.
    still_shut (pi_sum n) (whole (reach f)) (half_side outer) (half_side inner) (margin e f) (central_value n outer f) (central_value n inner f) change low)
    (onward_both
    (λ n steep nonneg. value_is_steep n steep nonneg f (centre outer).x (centre outer).y (centre inner).x (centre inner).y room near.0 near.1)
    sine_is_lipschitz_lem pi_nonneg)
    shut

pub shut_goes_down_lem : ShutGoesDown
shut_goes_down_lem w outer inner e within h =
    record {
      stable = h.stable;
      shift = h.shift;
      is_shift = h.is_shift;
      upper = h.upper;
      lower = h.lower;
      is_upper = h.is_upper;
      is_lower = h.is_lower;
      shut = shut_function_goes_down outer inner e (defining_function h.shift w h.upper h.lower) within h.shut;
    }

pub shut_goes_to_children : ShutGoesToChildren
shut_goes_to_children w box c e below = shut_goes_down_lem w box (child box c) e (λ p within. child_within box p c below within)

pub shut_is_not_clear_lem : ShutIsNotClear
shut_is_not_clear_lem w box e d positive positive' shut clear =
    let p = box_corner box 0 0 in
    let here = (corner_within box).0 in
    shut_gives_no_corridor_lem w box e positive shut p here (clear_gives_corridor_lem w box d positive' clear p here)
