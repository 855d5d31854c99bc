-- Where the points of a grid lie in the unit square, and that the corners of a polygon are points of it.
use Rattle.std.proofs.Common.{◌≡◌, refl, sym, subst, ℕ, ◌-◌, ◌<◌, length, slice_index_or, pos, inl, inr, arith}
use Rattle.std.specs.Prelude.{Any}
use Rattle.std.proofs.lemmas.List.{get_or_default}
use Rattle.std.proofs.lemmas.Bool.Decides.{eqb_tells}
use Rattle.ring_solver.specs.Expression.{num, ◌⊟◌, ◌⊠◌}
use Rattle.ring_solver.proofs.Solver.{ring₄}
use Rattle.ring_solver.proofs.Certificate.{at_most_of_same}
use Rattle.rat_core.specs.Fraction.{ℚ, ◌÷◌, whole, ◌≤ℚ◌}
use Rattle.rat_core.proofs.Laws.{ℚ_ring, ℚ_ordered, le_refl, le_trans, lt_le}
use Rattle.rat_core.proofs.Order.{over_nonneg, over_positive}
use Rattle.rat_core.proofs.Quotients.{over_at_most_one, sum_below_one}
use Rattle.rational_polygon.specs.Point.{Point, orientation, IsOnOrLeft, IsTriangle}
use Rattle.rational_polygon.specs.Square.{unit_square, IsInBox}
use Rattle.rational_polygon.specs.Outline.{Outline, grid_point, IsNumber, corner, next, IsInside, IsPolygon, IsInPolygon}
use Rattle.rational_polygon.proofs.Numbers.{by_number, at_found}

-- a corner that lies strictly inside is a triangle
inside_is_triangle : (grid : ℕ) (c : ℕ × ℕ) → 0 < grid → IsInside grid c → IsTriangle (grid_point grid c)
inside_is_triangle grid c p h = record {
  first = over_positive c.0 grid (omega (arith, h)) p;
  second = over_positive c.1 grid (omega (arith, h)) p;
  third = sum_below_one c.0 c.1 grid p h.sum;
}

-- every point of a polygon lies in the unit square
pub in_unit_square : (outline : Outline) (p : Point) → IsPolygon outline → IsInPolygon outline p → IsInBox unit_square p
in_unit_square outline p polygon within =
    let g : 0 < outline.grid = omega (arith, polygon.grid.0) in
    let l = within.rectangle.left in
    let r = within.rectangle.right in
    let b = within.rectangle.below in
    let a = within.rectangle.above in
    let at = λ (Q : ℕ × ℕ → Type 0) (found : Any Q outline.corners). at_found (IsInside outline.grid) Q outline.corners polygon.inside found in
    record {
      left = le_trans (whole 0) (pos l.1.0 ÷ outline.grid) p.x (over_nonneg l.1.0 outline.grid) l.4;
      right = let i = at _ r in le_trans p.x (pos r.1.0 ÷ outline.grid) (whole 1) r.4 (over_at_most_one r.1.0 outline.grid g (omega (arith, i)));
      below = le_trans (whole 0) (pos b.1.1 ÷ outline.grid) p.y (over_nonneg b.1.1 outline.grid) b.4;
      above = let i = at _ a in le_trans p.y (pos a.1.1 ÷ outline.grid) (whole 1) a.4 (over_at_most_one a.1.1 outline.grid g (omega (arith, i)));
    }

-- the ends of an edge lie on its line
orientation_at_start : (a b : Point) → orientation a b a ≡ whole 0
orientation_at_start a b = ring₄ ℚ_ring (λ ax ay bx by. (bx ⊟ ax) ⊠ (ay ⊟ ay) ⊟ (by ⊟ ay) ⊠ (ax ⊟ ax)) (λ ax ay bx by. num 0) refl a.x a.y b.x b.y

orientation_at_end : (a b : Point) → orientation a b b ≡ whole 0
orientation_at_end a b = ring₄ ℚ_ring (λ ax ay bx by. (bx ⊟ ax) ⊠ (by ⊟ ay) ⊟ (by ⊟ ay) ⊠ (bx ⊟ ax)) (λ ax ay bx by. num 0) refl a.x a.y b.x b.y

-- what is 0 is at least 0
on_line : (x : ℚ) → x ≡ whole 0 → whole 0 ≤ℚ x
on_line x e = at_most_of_same ℚ_ordered (sym e)

-- two numbers are equal or not
by_equality : {P : Type 0} (m n : ℕ) → (m ≡ n → P) → ((m ≡ n → ⊥) → P) → P
by_equality m n f g = elim (eqb_tells m n) [ inl h ↦ f h.1 | inr h ↦ g h.1 ]

-- each corner is on or left of each edge
corner_on_or_left : (outline : Outline) (i j : ℕ) → IsPolygon outline → IsNumber outline i → IsNumber outline j
    → IsOnOrLeft (corner outline i) (corner outline (next outline i)) (corner outline j)
corner_on_or_left outline i j polygon edge number =
    let a = corner outline i in
    let b = corner outline (next outline i) in
    by_equality j i (λ e. subst (λ t. IsOnOrLeft a b (corner outline t)) (sym e) (on_line (orientation a b a) (orientation_at_start a b)))
    (λ start. by_equality j (next outline i) (λ e. subst (λ t. IsOnOrLeft a b (corner outline t)) (sym e)
    (on_line (orientation a b b) (orientation_at_end a b)))
    (λ end. lt_le (whole 0) (orientation a b (corner outline j)) (polygon.convex i j edge number start end)))

-- each corner is a triangle and a point of the polygon
pub corner_is_point : (outline : Outline) (k : ℕ) → IsPolygon outline → IsNumber outline k → IsTriangle (corner outline k)
    × IsInPolygon outline (corner outline k)
corner_is_point outline k polygon number =
    let c = slice_index_or outline.corners (k - 1) (0, 0) in
    let lt : k - 1 < length outline.corners = omega (arith, number) in
    let is = get_or_default outline.corners (k - 1) c (0, 0) lt in
    let x = (corner outline k).x in
    let y = (corner outline k).y in (
      inside_is_triangle outline.grid c (omega (arith, polygon.grid.0))
          (by_number (IsInside outline.grid) outline.corners (0, 0) polygon.inside k number.at_least number.at_most),
      record {
        rectangle = record {
          left = (k - 1, c, lt, is, le_refl x);
          right = (k - 1, c, lt, is, le_refl x);
          below =
              (k - 1, c, lt, is, le_refl y);
          above = (k - 1, c, lt, is, le_refl y);
        };
        edges = λ i edge. corner_on_or_left outline i k polygon edge number;
      },
    )
