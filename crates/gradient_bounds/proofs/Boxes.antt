-- What the value of a function at the centre of a box says of all its points.
use Rattle.std.proofs.Common.{◌≡◌, refl, sym, subst, ℕ, List, ◌+◌, [], ◌∷◌}
use Rattle.ring_solver.specs.Expression.{num, ◌⊞◌, ◌⊟◌, ◌⊠◌, opp}
use Rattle.ring_solver.specs.Ordered.{le, times}
use Rattle.ring_solver.proofs.Solver.{ring₃}
use Rattle.ring_solver.proofs.Certificate.{le₃, le₅}
use Rattle.rat_core.specs.Fraction.{ℚ, whole, neg_ℚ, ◌+ℚ◌, ◌-ℚ◌, ◌≤ℚ◌, ◌<ℚ◌, abs}
use Rattle.rat_core.proofs.Laws.{ℚ_ring, ℚ_ordered, lt_le, lt_not_le}
use Rattle.rat_core.proofs.Order.{whole_nonneg, le_abs, neg_le_abs}
use Rattle.exp_sums.specs.FormalPoint.{FormalPoint}
use Rattle.exp_sums.specs.Limits.{weight}
use Rattle.exp_sums.specs.Reach.{reach}
use Rattle.trig_meaning.specs.FromSomeOn.{FromSomeOn}
use Rattle.trig_meaning.specs.PartialSums.{pi_sum}
use Rattle.trig_meaning.specs.Value.{IsPositiveAt, value_at}
use Rattle.trig_meaning.proofs.FromSomeOnLaws.{onward, onward_both, somewhere}
use Rattle.trig_meaning.proofs.PiSums.{pi_nonneg}
use Rattle.trig_meaning.proofs.Lipschitz.{sine_is_lipschitz_lem}
use Rattle.trig_meaning.proofs.Gradient.{value_is_steep}
use Rattle.rational_polygon.specs.Point.{Point}
use Rattle.rational_polygon.specs.Square.{Square, centre, half_side, IsInBox}
use Rattle.rational_polygon.proofs.Centres.{near_centre}
use Rattle.gradient_bounds.specs.Corridor.{EachFunction, SomeFunction}
use Rattle.gradient_bounds.specs.Clear.{margin, drift, central_value, IsClearFunction, IsClearAtPoint, IsClearFunctionOn, IsShutFunctionOn, IsShut}
use Rattle.gradient_bounds.specs.Laws.{ClearGivesCorridor, ShutGivesNoCorridor, ClearWithLess}
use Rattle.gradient_bounds.specs.Neighbourhood.{Ball, threshold_of, IsClearIn}
use Rattle.gradient_bounds.proofs.Margins.{margin_positive}
use Rattle.gradient_bounds.proofs.EachFunction.{each_meets_some, each_onward}

-- ---- from the centre to a point

-- the value changes by at most the drift
within_drift : (box : Square) (p : Point) (f : FormalPoint) → IsInBox box p
    → FromSomeOn (λ n. abs (central_value n box f -ℚ value_at n f p.x p.y) ≤ℚ drift n box f)
within_drift box p f within =
    let near = near_centre box p within in
    onward_both (λ n steep nonneg. value_is_steep n steep nonneg f (centre box).x (centre box).y p.x p.y
    (half_side box) near.0 near.1) sine_is_lipschitz_lem pi_nonneg

-- so what exceeds the drift by a margin reaches the margin, and what lies as far below 0 stays below it
still_above : (d m c p : ℚ) → abs (c -ℚ p) ≤ℚ d → d +ℚ m ≤ℚ c → m ≤ℚ p
still_above d m c p near above = le₅ ℚ_ordered (λ d m c p a. m) (λ d m c p a. p)
    (λ d m c p a. le (c ⊟ p) a ∷ le a d ∷ le (d ⊞ m) c ∷ []) refl d m c p (abs (c -ℚ p)) (le_abs (c -ℚ p), (near, (above, tt)))

still_below : (d m c p : ℚ) → abs (c -ℚ p) ≤ℚ d → c ≤ℚ neg_ℚ (d +ℚ m) → p ≤ℚ neg_ℚ m
still_below d m c p near below =
    le₅ ℚ_ordered (λ d m c p a. p) (λ d m c p a. opp m) (λ d m c p a. le (opp (c ⊟ p)) a ∷ le a d ∷ le c (opp (d ⊞ m)) ∷ []) refl d m c p
    (abs (c -ℚ p)) (neg_le_abs (c -ℚ p), (near, (below, tt)))

-- ---- clear boxes

clear_function_is_positive : (box : Square) (e : ℚ) (p : Point) → whole 0 <ℚ e → IsInBox box p → (f : FormalPoint) → IsClearFunctionOn box e f
    → IsPositiveAt f p.x p.y
clear_function_is_positive box e p positive within f clear = (
  margin e f,
  margin_positive e f positive,
  onward_both (λ n near above. still_above (drift n box f) (margin e f) (central_value n box f) (value_at n f p.x p.y) near above)
      (within_drift box p f within) clear,
)

pub clear_gives_corridor_lem : ClearGivesCorridor
clear_gives_corridor_lem w box e positive clear p within = each_onward (IsClearFunctionOn box e) (λ f. IsPositiveAt f p.x p.y) w
    (clear_function_is_positive box e p positive within) clear

-- a lesser slack asks for less
clear_function_with_less : (box : Square) (e d : ℚ) → d ≤ℚ e → (f : FormalPoint) → IsClearFunctionOn box e f → IsClearFunctionOn box d f
clear_function_with_less box e d less f clear =
    let u = whole (1 + weight f) in
    onward
    (λ n above.
    le₅ ℚ_ordered (λ a d e u v. a ⊞ d ⊠ u) (λ a d e u v. v) (λ a d e u v. times u d e ∷ le (a ⊞ e ⊠ u) v ∷ []) refl (drift n box f) d e u
    (central_value n box f) (whole_nonneg (1 + weight f), less, (above, tt)))
    clear

pub clear_with_less_lem : ClearWithLess
clear_with_less_lem w box e d less clear = each_onward (IsClearFunctionOn box e) (IsClearFunctionOn box d) w (clear_function_with_less box e d less) clear

-- ---- shut boxes

pub some_of_shut : (w : List ℕ) (box : Square) (e : ℚ) → IsShut w box e → SomeFunction w (IsShutFunctionOn box e)
some_of_shut w box e h =
    record {
      stable = h.stable;
      shift = h.shift;
      is_shift = h.is_shift;
      upper = h.upper;
      lower = h.lower;
      is_upper = h.is_upper;
      is_lower = h.is_lower;
      holds = h.shut;
    }

pub shut_of_some : (w : List ℕ) (box : Square) (e : ℚ) → SomeFunction w (IsShutFunctionOn box e) → IsShut w box e
shut_of_some w box e h =
    record {
      stable = h.stable;
      shift = h.shift;
      is_shift = h.is_shift;
      upper = h.upper;
      lower = h.lower;
      is_upper = h.is_upper;
      is_lower = h.is_lower;
      shut = h.holds;
    }

shut_function_is_not_positive : (box : Square) (e : ℚ) (p : Point) → whole 0 <ℚ e → IsInBox box p → (f : FormalPoint) → IsPositiveAt f p.x p.y
    → IsShutFunctionOn box e f → ⊥
shut_function_is_not_positive box e p positive within f above shut =
    let below : FromSomeOn (λ n. value_at n f p.x p.y ≤ℚ neg_ℚ (margin e f)) =
    onward_both (λ n near low. still_below (drift n box f) (margin e f) (central_value n box f) (value_at n f p.x p.y) near low)
    (within_drift box p f within) shut
    in
    let both_from : FromSomeOn (λ n. (above.0 ≤ℚ value_at n f p.x p.y) × (value_at n f p.x p.y ≤ℚ neg_ℚ (margin e f))) = onward_both
    (λ n h k. (h, k)) above.2 below in
    let both = somewhere both_from in
    lt_not_le (whole 0) above.0 above.1
    (no_room above.0 (value_at both.0 f p.x p.y) (margin e f) both.1.0 both.1.1 (lt_le (whole 0) (margin e f) (margin_positive e f positive)))
  where
    no_room : (t v m : ℚ) → t ≤ℚ v → v ≤ℚ neg_ℚ m → whole 0 ≤ℚ m → t ≤ℚ whole 0
    no_room t v m h k l = le₃ ℚ_ordered (λ t v m. t) (λ t v m. num 0) (λ t v m. le t v ∷ le v (opp m) ∷ le (num 0) m ∷ []) refl t v m (h, (k, (l, tt)))

pub shut_gives_no_corridor_lem : ShutGivesNoCorridor
shut_gives_no_corridor_lem w box e positive shut p within corridor =
    let both = each_meets_some (λ f. IsPositiveAt f p.x p.y) (IsShutFunctionOn box e) w corridor (some_of_shut w box e shut) in
    shut_function_is_not_positive box e p positive within both.0 both.1 both.2

-- ---- balls

-- and that of a point, where the drift is 0
abbrev pub point_ball : ℚ → ℚ → Ball
point_ball x y = record { x = x; y = y; radius = whole 0 }

no_drift : (n : ℕ) (e : ℚ) (f : FormalPoint) → threshold_of n (whole 0) e f ≡ margin e f
no_drift n e f = ring₃ ℚ_ring (λ p r m. p ⊠ (r ⊠ num 0) ⊞ m) (λ p r m. m) refl (pi_sum n) (whole (reach f)) (margin e f)

pub clear_at_point : (w : List ℕ) (x y e : ℚ) → EachFunction w (IsClearIn (point_ball x y) e) → IsClearAtPoint w x y e
clear_at_point w x y e h = each_onward (IsClearIn (point_ball x y) e) (IsClearFunction x y e) w
    (λ f clear. onward (λ n above. subst (λ t. t ≤ℚ value_at n f x y) (no_drift n e f) above) clear) h

pub clear_in_point : (w : List ℕ) (x y e : ℚ) → IsClearAtPoint w x y e → EachFunction w (IsClearIn (point_ball x y) e)
clear_in_point w x y e h = each_onward (IsClearFunction x y e) (IsClearIn (point_ball x y) e) w
    (λ f clear. onward (λ n above. subst (λ t. t ≤ℚ value_at n f x y) (sym (no_drift n e f)) above) clear) h
