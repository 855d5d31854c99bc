-- A point that is on or left of every edge of a polygon lies in its bounding rectangle and is a triangle.
-- The triangles of corner 1 and two corners that follow one another are a fan over the polygon,
-- so a point that is on or left of every edge lies in one of them; and in a triangle u·x + v·y is at most its greatest value at a corner.
use Rattle.std.proofs.Common.{◌≡◌, refl, sym, ap, subst, ℕ, zero, suc, ◌+◌, ◌-◌, ◌<◌, ◌≤◌, [], ◌∷◌, length, slice_index_or, pos, ◌⊎◌, inl, inr, List, arith}
use Rattle.std.specs.Prelude.{Any}
use Rattle.std.proofs.Math.Nat.{mod-eq_of_lt, mod_self}
use Rattle.std.proofs.lemmas.Bool.{cases_lt}
use Rattle.std.proofs.lemmas.List.{get_or_default}
use Rattle.ring_solver.specs.Expression.{Expression, var, num, ◌⊞◌, ◌⊟◌, ◌⊠◌, opp}
use Rattle.ring_solver.specs.Ordered.{le, times}
use Rattle.ring_solver.proofs.Solver.{ring₂}
use Rattle.ring_solver.proofs.Certificate.{certified, le₄, le₅, le₆}
use Rattle.rat_core.specs.Fraction.{ℚ, ◌÷◌, whole, ◌+ℚ◌, ◌*ℚ◌, neg_ℚ, ◌≤ℚ◌}
use Rattle.rat_core.proofs.Laws.{ℚ_ring, ℚ_ordered, le_refl, le_trans, le_or_lt, lt_le}
use Rattle.rat_core.proofs.Order.{cancel_positive, over_positive, le_lt_trans, lt_le_trans}
use Rattle.rat_core.proofs.Quotients.{over_mono, over_below_one, over-add_same}
use Rattle.rational_polygon.specs.Point.{Point, orientation, IsStrictlyLeft, IsOnOrLeft, IsTriangle}
use Rattle.rational_polygon.specs.Outline.{Outline, grid_point, IsNumber, corner, next, IsInside, IsPolygon, IsInRectangle, IsOnOrLeftOfEdges, IsInPolygon}
use Rattle.rational_polygon.proofs.Numbers.{by_number, at_found}

-- the orientation, for the solver
abbrev orientation_of : (ax ay bx by px py : Expression) → Expression
orientation_of ax ay bx by px py = (bx ⊟ ax) ⊠ (py ⊟ ay) ⊟ (by ⊟ ay) ⊠ (px ⊟ ax)

-- of an edge and its reversal, a point is on or left of one
one_side : (a b p : Point) → IsOnOrLeft a b p ⊎ IsOnOrLeft b a p
one_side a b p =
    le_or_lt (whole 0) (orientation a b p) (λ h. inl h)
    (λ h. inr (le₆ ℚ_ordered (λ ax ay bx by px py. num 0) (λ ax ay bx by px py. orientation_of bx by ax ay px py)
    (λ ax ay bx by px py. le (orientation_of ax ay bx by px py) (num 0) ∷ []) refl
    a.x a.y b.x b.y p.x p.y (lt_le (orientation a b p) (whole 0) h, tt)))

-- in a triangle, u·x + v·y is at most s where it is at the three corners: the weight of a corner is the triangle of the point and the other two
linear_in_triangle : (u v : ℚ) (a b c p : Point) (s : ℚ) → IsStrictlyLeft b c a → IsOnOrLeft a b p → IsOnOrLeft b c p → IsOnOrLeft c a p
    → u *ℚ a.x +ℚ v *ℚ a.y ≤ℚ s → u *ℚ b.x +ℚ v *ℚ b.y ≤ℚ s → u *ℚ c.x +ℚ v *ℚ c.y ≤ℚ s → u *ℚ p.x +ℚ v *ℚ p.y ≤ℚ s
linear_in_triangle u v a b c p s strict ab bc ca at_a at_b at_c =
    cancel_positive (orientation b c a) (u *ℚ p.x +ℚ v *ℚ p.y) s strict
    (certified ℚ_ordered (a.x ∷ a.y ∷ b.x ∷ b.y ∷ c.x ∷ c.y ∷ p.x ∷ p.y ∷ s ∷ u ∷ v ∷ [])
    (orientation_of (var 2) (var 3) (var 4) (var 5) (var 0) (var 1) ⊠ (var 9 ⊠ var 6 ⊞ var 10 ⊠ var 7))
    (orientation_of (var 2) (var 3) (var 4) (var 5) (var 0) (var 1) ⊠ var 8)
    (times (orientation_of (var 2) (var 3) (var 4) (var 5) (var 6) (var 7)) (var 9 ⊠ var 0 ⊞ var 10 ⊠ var 1) (var 8)
    ∷ times (orientation_of (var 4) (var 5) (var 0) (var 1) (var 6) (var 7)) (var 9 ⊠ var 2 ⊞ var 10 ⊠ var 3) (var 8)
    ∷ times (orientation_of (var 0) (var 1) (var 2) (var 3) (var 6) (var 7)) (var 9 ⊠ var 4 ⊞ var 10 ⊠ var 5) (var 8)
    ∷ []) refl (bc, at_a, (ca, at_b, (ab, at_c, tt))))

-- where each number has P or Q, the first has P and the last Q, one with P is followed by one with Q
crossing : (P Q : ℕ → Type 0) → ((i : ℕ) → P i ⊎ Q i) → (last first k : ℕ) → first + 1 + k ≡ last → P first → Q last → (i : ℕ) × (first ≤ i)
    × (i < last) × P i × Q (i + 1)
crossing P Q either last first zero e p q = let is : last ≡ first + 1 = omega arith in (first, omega arith, omega arith, p, subst Q is q)
crossing P Q either last first (suc k) e p q =
    elim (either (first + 1)) [
      | inl h ↦ let r = crossing P Q either last (first + 1) k (omega arith) h q in
          (r.0, omega arith, omega arith, r.3, r.4)
      | inr h ↦ (first, omega arith, omega arith, p, h)
    ]

-- the corner that follows
next_within : (outline : Outline) (k : ℕ) → k < length outline.corners → next outline k ≡ k + 1
next_within outline k lt = ap (λ t. t + 1) (mod-eq_of_lt lt)

next_last : (outline : Outline) → next outline (length outline.corners) ≡ 1
next_last outline = ap (λ t. t + 1) (mod_self (length outline.corners))

-- on or left of every edge of a polygon, u·x + v·y is at most s where it is at each corner
linear_in_polygon : (u v : ℚ) (outline : Outline) (p : Point) (s : ℚ) → IsPolygon outline → IsOnOrLeftOfEdges outline p
    → ((k : ℕ) → IsNumber outline k → u *ℚ (corner outline k).x +ℚ v *ℚ (corner outline k).y ≤ℚ s) → u *ℚ p.x +ℚ v *ℚ p.y ≤ℚ s
linear_in_polygon u v outline p s polygon edges at =
    let n = length outline.corners in
    let a = corner outline 1 in
    let first : IsNumber outline 1 = record { at_least = omega arith; at_most = omega (arith, polygon.count.0) } in
    let last : IsNumber outline n = record { at_least = omega (arith, polygon.count.0); at_most = omega arith } in
    let start : IsOnOrLeft a (corner outline 2) p =
    subst (λ t. IsOnOrLeft a (corner outline t) p) (next_within outline 1 (omega (arith, polygon.count.0))) (edges 1 first) in
    let end : IsOnOrLeft (corner outline n) a p = subst (λ t. IsOnOrLeft (corner outline n) (corner outline t) p) (next_last outline) (edges n last) in
    let found =
    crossing (λ i. IsOnOrLeft a (corner outline i) p) (λ i. IsOnOrLeft (corner outline i) a p) (λ i. one_side a (corner outline i) p)
    n 2 (n - 3) (omega (arith, polygon.count.0)) start end
    in
    let i = found.0 in
    let edge : IsNumber outline i = record { at_least = omega (arith, found.1); at_most = omega (arith, found.2) } in
    let following : IsNumber outline (i + 1) = record { at_least = omega arith; at_most = omega (arith, found.2) } in
    let is : next outline i ≡ i + 1 = next_within outline i found.2 in
    let strict : IsStrictlyLeft (corner outline i) (corner outline (i + 1)) a =
    subst (λ t. IsStrictlyLeft (corner outline i) (corner outline t) a) is
    (polygon.convex i 1 edge first (λ e. omega (arith, found.1)) (λ e. omega (arith, found.1)))
    in
    let beside : IsOnOrLeft (corner outline i) (corner outline (i + 1)) p = subst (λ t. IsOnOrLeft (corner outline i) (corner outline t) p) is (edges i edge) in
    linear_in_triangle u v a (corner outline i) (corner outline (i + 1)) p s strict found.3 beside found.4 (at 1 first) (at i edge) (at (i + 1) following)

-- ---- the bounding rectangle

-- among the numbers up to m there is one at which f is least
least_up_to : (f : ℕ → ℚ) (m : ℕ) → (k : ℕ) × (k ≤ m) × ((i : ℕ) → i ≤ m → f k ≤ℚ f i)
least_up_to f zero = (0, omega arith, λ i h. let is : 0 ≡ i = omega arith in subst (λ t. f 0 ≤ℚ f t) is (le_refl (f 0)))
least_up_to f (suc m) =
    let earlier = least_up_to f m in
    let k = earlier.0 in
    le_or_lt (f k) (f (suc m))
    (λ h. (k, omega (arith, earlier.1), λ i below. up_to m i (λ t. f k ≤ℚ f t) below (earlier.2 i) h))
    (λ h. (
      suc m,
      omega arith,
      λ i below. up_to m i (λ t. f (suc m) ≤ℚ f t) below (λ l. le_trans (f (suc m)) (f k) (f i) (lt_le (f (suc m)) (f k) h) (earlier.2 i l))
          (le_refl (f (suc m))),
    ))
  where
    up_to : (m i : ℕ) (P : ℕ → Type 0) → i ≤ suc m → (i ≤ m → P i) → P (suc m) → P i
    up_to m i P below earlier last =
        elim (cases_lt i (suc m)) [ inl h ↦ earlier (omega arith) | inr h ↦ let is : suc m ≡ i = omega arith in subst P is last ]

-- u·x + v·y at a corner
abbrev height_at : ℚ → ℚ → ℕ → ℕ × ℕ → ℚ
height_at u v grid c = u *ℚ (grid_point grid c).x +ℚ v *ℚ (grid_point grid c).y

-- some corner lies as far along (u, v) as a point that is on or left of every edge, or less far
some_corner_before : (u v : ℚ) (outline : Outline) (p : Point) → IsPolygon outline → IsOnOrLeftOfEdges outline p
    → Any (λ c. height_at u v outline.grid c ≤ℚ u *ℚ p.x +ℚ v *ℚ p.y) outline.corners
some_corner_before u v outline p polygon edges =
    let n = length outline.corners in
    let some : 3 ≤ n = polygon.count.0 in
    let f : ℕ → ℚ = λ i. height_at u v outline.grid (slice_index_or outline.corners i (0, 0)) in
    let least = least_up_to f (n - 1) in
    let k = least.0 in
    let c = slice_index_or outline.corners k (0, 0) in
    let below : k < n = omega (arith, least.1) in (
      k,
      c,
      below,
      get_or_default outline.corners k c (0, 0) below,
      negated u v p (f k)
          (linear_in_polygon (neg_ℚ u) (neg_ℚ v) outline p (neg_ℚ (f k)) polygon edges
          (λ i number. negated_back u v (corner outline i) (f k) (least.2 (i - 1) (omega (arith, number))))),
    )
  where
    negated : (u v : ℚ) (p : Point) (s : ℚ) → neg_ℚ u *ℚ p.x +ℚ neg_ℚ v *ℚ p.y ≤ℚ neg_ℚ s → s ≤ℚ u *ℚ p.x +ℚ v *ℚ p.y
    negated u v p s h =
        le₅ ℚ_ordered (λ u v x y s. s) (λ u v x y s. u ⊠ x ⊞ v ⊠ y) (λ u v x y s. le (opp u ⊠ x ⊞ opp v ⊠ y) (opp s) ∷ []) refl u v p.x p.y s (h, tt)

    negated_back : (u v : ℚ) (p : Point) (s : ℚ) → s ≤ℚ u *ℚ p.x +ℚ v *ℚ p.y → neg_ℚ u *ℚ p.x +ℚ neg_ℚ v *ℚ p.y ≤ℚ neg_ℚ s
    negated_back u v p s h =
        le₅ ℚ_ordered (λ u v x y s. opp u ⊠ x ⊞ opp v ⊠ y) (λ u v x y s. opp s) (λ u v x y s. le s (u ⊠ x ⊞ v ⊠ y) ∷ []) refl u v p.x p.y s (h, tt)

-- one that is found has what follows
any_onward : {X : Type 0} (P Q : X → Type 0) (xs : List X) → ((x : X) → P x → Q x) → Any P xs → Any Q xs
any_onward P Q xs f found = (found.0, found.1, found.2, found.3, f found.1 found.4)

-- a point on or left of every edge lies in the bounding rectangle
pub in_rectangle : (outline : Outline) (p : Point) → IsPolygon outline → IsOnOrLeftOfEdges outline p → IsInRectangle outline p
in_rectangle outline p polygon edges =
    let zero = whole 0 in
    let one = whole 1 in
    let minus = neg_ℚ (whole 1) in
    let grid = outline.grid in
    let cs = outline.corners in
    let before = λ (u v : ℚ). some_corner_before u v outline p polygon edges in
    record {
      left = any_onward _ (λ c. (grid_point grid c).x ≤ℚ p.x) cs (λ c. along_x (grid_point grid c) p) (before one zero);
      right = any_onward _ (λ c. p.x ≤ℚ (grid_point grid c).x) cs (λ c. against_x (grid_point grid c) p) (before minus zero);
      below = any_onward _ (λ c. (grid_point grid c).y ≤ℚ p.y) cs (λ c. along_y (grid_point grid c) p) (before zero one);
      above = any_onward _ (λ c. p.y ≤ℚ (grid_point grid c).y) cs (λ c. against_y (grid_point grid c) p) (before zero minus);
    }
  where
    along_x : (a p : Point) → whole 1 *ℚ a.x +ℚ whole 0 *ℚ a.y ≤ℚ whole 1 *ℚ p.x +ℚ whole 0 *ℚ p.y → a.x ≤ℚ p.x
    along_x a p h =
        le₄ ℚ_ordered (λ x y z w. x) (λ x y z w. z) (λ x y z w. le (num 1 ⊠ x ⊞ num 0 ⊠ y) (num 1 ⊠ z ⊞ num 0 ⊠ w) ∷ []) refl a.x a.y p.x p.y (h, tt)

    against_x : (a p : Point) → neg_ℚ (whole 1) *ℚ a.x +ℚ whole 0 *ℚ a.y ≤ℚ neg_ℚ (whole 1) *ℚ p.x +ℚ whole 0 *ℚ p.y → p.x ≤ℚ a.x
    against_x a p h =
        le₄ ℚ_ordered (λ x y z w. z) (λ x y z w. x) (λ x y z w. le (opp (num 1) ⊠ x ⊞ num 0 ⊠ y) (opp (num 1) ⊠ z ⊞ num 0 ⊠ w) ∷ []) refl
        a.x a.y p.x p.y (h, tt)

    along_y : (a p : Point) → whole 0 *ℚ a.x +ℚ whole 1 *ℚ a.y ≤ℚ whole 0 *ℚ p.x +ℚ whole 1 *ℚ p.y → a.y ≤ℚ p.y
    along_y a p h =
        le₄ ℚ_ordered (λ x y z w. y) (λ x y z w. w) (λ x y z w. le (num 0 ⊠ x ⊞ num 1 ⊠ y) (num 0 ⊠ z ⊞ num 1 ⊠ w) ∷ []) refl a.x a.y p.x p.y (h, tt)

    against_y : (a p : Point) → whole 0 *ℚ a.x +ℚ neg_ℚ (whole 1) *ℚ a.y ≤ℚ whole 0 *ℚ p.x +ℚ neg_ℚ (whole 1) *ℚ p.y → p.y ≤ℚ a.y
    against_y a p h =
        le₄ ℚ_ordered (λ x y z w. w) (λ x y z w. y) (λ x y z w. le (num 0 ⊠ x ⊞ opp (num 1) ⊠ y) (num 0 ⊠ z ⊞ opp (num 1) ⊠ w) ∷ []) refl
        a.x a.y p.x p.y (h, tt)

-- ---- triangles

-- every point of a polygon is a triangle
pub point_is_triangle : (outline : Outline) (p : Point) → IsPolygon outline → IsInPolygon outline p → IsTriangle p
point_is_triangle outline p polygon within =
    let grid = outline.grid in
    let g : 0 < grid = omega (arith, polygon.grid.0) in
    let l = within.rectangle.left in
    let b = within.rectangle.below in
    let lower = grid - 1 in
    record {
      first = let i = at_found (IsInside grid) _ outline.corners polygon.inside l in lt_le_trans (whole 0) (pos l.1.0 ÷ grid) p.x
          (over_positive l.1.0 grid (omega (arith, i)) g) l.4;
      second = let i = at_found (IsInside grid) _ outline.corners polygon.inside b in lt_le_trans (whole 0) (pos b.1.1 ÷ grid) p.y
          (over_positive b.1.1 grid (omega (arith, i)) g) b.4;
      third = le_lt_trans (p.x +ℚ p.y) (pos lower ÷ grid) (whole 1) (subst (λ t. t ≤ℚ pos lower ÷ grid) (sum_is p)
          (linear_in_polygon (whole 1) (whole 1) outline p (pos lower ÷ grid) polygon within.edges
          (λ k number. subst (λ t. t ≤ℚ pos lower ÷ grid) (sym (sum_is (corner outline k))) (at_corner k number)))) (over_below_one lower grid g (omega arith));
    }
  where
    -- the sum as a multiple of the coordinates
    sum_is : (p : Point) → whole 1 *ℚ p.x +ℚ whole 1 *ℚ p.y ≡ p.x +ℚ p.y
    sum_is p = ring₂ ℚ_ring (λ x y. num 1 ⊠ x ⊞ num 1 ⊠ y) (λ x y. x ⊞ y) refl p.x p.y

    at_corner : (k : ℕ) → IsNumber outline k → (corner outline k).x +ℚ (corner outline k).y ≤ℚ pos (outline.grid - 1) ÷ outline.grid
    at_corner k number =
        let c = slice_index_or outline.corners (k - 1) (0, 0) in
        let i : IsInside outline.grid c = by_number (IsInside outline.grid) outline.corners (0, 0) polygon.inside k number.at_least number.at_most in
        subst (λ t. t ≤ℚ pos (outline.grid - 1) ÷ outline.grid) (sym (over-add_same c.0 c.1 outline.grid (omega (arith, polygon.grid.0))))
        (over_mono (c.0 + c.1) (outline.grid - 1) outline.grid (omega (arith, polygon.grid.0)) (omega (arith, i)))
