-- A box that is apart from a polygon has no point of it.
use Rattle.std.proofs.Common.{refl, ℕ, ◌+◌, ◌≤◌, List, [], ◌∷◌, arith, inl, inr}
use Rattle.std.specs.Prelude.{All, Any}
use Rattle.ring_solver.specs.Expression.{var, num, ◌⊟◌, ◌⊠◌, opp}
use Rattle.ring_solver.specs.Ordered.{le}
use Rattle.ring_solver.proofs.Certificate.{certified, le₃}
use Rattle.rat_core.specs.Fraction.{ℚ, whole, ◌-ℚ◌, ◌*ℚ◌, neg_ℚ, ◌≤ℚ◌, ◌<ℚ◌}
use Rattle.rat_core.proofs.Laws.{ℚ_ordered, le_trans, lt_le, lt_not_le, le_or_lt}
use Rattle.rat_core.proofs.Order.{neg_nonneg, difference_nonneg}
use Rattle.rational_polygon.specs.Point.{Point, orientation}
use Rattle.rational_polygon.specs.Square.{Square, dyadic, box_corner, IsInBox}
use Rattle.rational_polygon.specs.Outline.{Outline, grid_point, corner, next, IsInPolygon}
use Rattle.rational_polygon.specs.Apart.{IsApart}
use Rattle.rational_polygon.proofs.Numbers.{at_found}

-- where all lie above t and one at most at s, s is above t; and the same below
gap_above : (f : ℕ × ℕ → ℚ) (cs : List (ℕ × ℕ)) (s t : ℚ) → All (λ c. t <ℚ f c) cs → Any (λ c. f c ≤ℚ s) cs → s ≤ℚ t → ⊥
gap_above f cs s t all found h =
    lt_not_le t (f found.1) (at_found (λ c. t <ℚ f c) (λ c. f c ≤ℚ s) cs all found) (le_trans (f found.1) s t found.4 h)

gap_below : (f : ℕ × ℕ → ℚ) (cs : List (ℕ × ℕ)) (s t : ℚ) → All (λ c. f c <ℚ t) cs → Any (λ c. s ≤ℚ f c) cs → t ≤ℚ s → ⊥
gap_below f cs s t all found h =
    lt_not_le (f found.1) t (at_found (λ c. f c <ℚ t) (λ c. s ≤ℚ f c) cs all found) (le_trans t s (f found.1) h found.4)

-- a step along which the orientation does not fall
orientation_grows : (a b p q : Point) → whole 0 ≤ℚ (b.x -ℚ a.x) *ℚ (q.y -ℚ p.y) → whole 0 ≤ℚ neg_ℚ (b.y -ℚ a.y) *ℚ (q.x -ℚ p.x)
    → orientation a b p ≤ℚ orientation a b q
orientation_grows a b p q h k =
    certified ℚ_ordered ((b.x -ℚ a.x) ∷ (b.y -ℚ a.y) ∷ a.x ∷ a.y ∷ p.x ∷ p.y ∷ q.x ∷ q.y ∷ [])
    (var 0 ⊠ (var 5 ⊟ var 3) ⊟ var 1 ⊠ (var 4 ⊟ var 2)) (var 0 ⊠ (var 7 ⊟ var 3) ⊟ var 1 ⊠ (var 6 ⊟ var 2))
    (le (num 0) (var 0 ⊠ (var 7 ⊟ var 5)) ∷ le (num 0) (opp (var 1) ⊠ (var 6 ⊟ var 4)) ∷ []) refl (h, (k, tt))

-- of the two ends of a stretch, one is at least as far along the direction u
farther : (f : ℕ → ℚ) (u s : ℚ) → f 0 ≤ℚ s → s ≤ℚ f 1 → (n : ℕ) × (n ≤ 1) × (whole 0 ≤ℚ u *ℚ (f n -ℚ s))
farther f u s low high =
    le_or_lt (whole 0) u
    (λ h. (1, omega arith, ℚ_ordered.mul_nonneg u (f 1 -ℚ s) h (difference_nonneg s (f 1) high)))
    (λ h. (0, omega arith, negated u (f 0) s (ℚ_ordered.mul_nonneg (neg_ℚ u) (s -ℚ f 0) (neg_nonneg u (lt_le u (whole 0) h)) (difference_nonneg (f 0) s low))))
  where
    negated : (u x y : ℚ) → whole 0 ≤ℚ neg_ℚ u *ℚ (y -ℚ x) → whole 0 ≤ℚ u *ℚ (x -ℚ y)
    negated u x y h = le₃ ℚ_ordered (λ u x y. num 0) (λ u x y. u ⊠ (x ⊟ y)) (λ u x y. le (num 0) (opp u ⊠ (y ⊟ x)) ∷ []) refl u x y (h, tt)

-- some corner of a box is at least as far left of an edge as a point of the box
right_of_edge : (a b : Point) (box : Square) (p : Point) → ((i j : ℕ) → i ≤ 1 → j ≤ 1 → orientation a b (box_corner box i j) <ℚ whole 0)
    → IsInBox box p → whole 0 ≤ℚ orientation a b p → ⊥
right_of_edge a b box p right within left =
    let up = farther (λ n. dyadic (box.j + n) box.level) (b.x -ℚ a.x) p.y within.below within.above in
    let across = farther (λ n. dyadic (box.i + n) box.level) (neg_ℚ (b.y -ℚ a.y)) p.x within.left within.right in
    let q = box_corner box across.0 up.0 in
    lt_not_le (orientation a b q) (whole 0) (right across.0 up.0 across.1 up.1)
    (le_trans (whole 0) (orientation a b p) (orientation a b q) left (orientation_grows a b p q up.2 across.2))

-- no point is of the polygon and in a box that is apart from it
pub apart_has_none : (box : Square) (outline : Outline) (p : Point) → IsApart box outline → IsInPolygon outline p → IsInBox box p → ⊥
apart_has_none box outline p (inl (inl all)) polygon within =
    gap_above (λ c. (grid_point outline.grid c).x) outline.corners p.x (box_corner box 1 1).x all polygon.rectangle.left within.right
apart_has_none box outline p (inl (inr (inl all))) polygon within =
    gap_below (λ c. (grid_point outline.grid c).x) outline.corners p.x (box_corner box 0 0).x all polygon.rectangle.right within.left
apart_has_none box outline p (inl (inr (inr (inl all)))) polygon within =
    gap_above (λ c. (grid_point outline.grid c).y) outline.corners p.y (box_corner box 1 1).y all polygon.rectangle.below within.above
apart_has_none box outline p (inl (inr (inr (inr all)))) polygon within =
    gap_below (λ c. (grid_point outline.grid c).y) outline.corners p.y (box_corner box 0 0).y all polygon.rectangle.above within.below
apart_has_none box outline p (inr found) polygon within =
    right_of_edge (corner outline found.0) (corner outline (next outline found.0)) box p found.2 within (polygon.edges found.0 found.1)
