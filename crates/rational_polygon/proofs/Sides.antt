-- On which side of an edge between grid points a point lies, by whole numbers.
use Rattle.std.proofs.Common.{◌≡◌, refl, sym, ap, ap₂, ◌∙◌, ℕ, ◌*◌, ◌<◌, Bool, true, false, not, T, cond, [], ◌∷◌, ℤ, pos, ◌-ℤ◌, ◌*ℤ◌, ◌<ℤ◌, Ordering}
use Rattle.std.proofs.Common.{Less, Equal, Greater, int_cmp, arith, mul-pos, lt→ltb}
use Rattle.std.specs.Prelude.{◌↔◌, IsTrue}
use Rattle.std.specs.Ordering.{is_lt}
use Rattle.std.proofs.Math.IntN.{zero-*ℤ}
use Rattle.std.proofs.lemmas.Int.{ints}
use Rattle.ring_solver.specs.Expression.{var, ◌⊟◌, ◌⊠◌}
use Rattle.ring_solver.proofs.Solver.{ring}
use Rattle.ring_solver.proofs.Whole.{ℤ_ring, *ℤ-pos_one}
use Rattle.rat_core.specs.Fraction.{ℚ, ◌÷◌, whole, ◌-ℚ◌, ◌*ℚ◌, at_most, ◌≤ℚ◌, ◌<ℚ◌}
use Rattle.rat_core.specs.Written.{order_of}
use Rattle.rat_core.proofs.Laws.{over_same, over-product, lt_le, le_or_lt}
use Rattle.rat_core.proofs.Compare.{order_of_written}
use Rattle.rat_core.proofs.Quotients.{over-sub, over-sub_same}
use Rattle.rational_polygon.specs.Point.{orientation}
use Rattle.rational_polygon.specs.Outline.{grid_point}

-- what decides: the product of the run of the edge and the rise of the point, and of the rise of the edge and the run of the point
abbrev pub product_at : ℕ → ℕ → ℕ → ℕ → ℤ → ℕ → ℕ → ℤ
product_at grid from to at n d e = (pos to -ℤ pos from) *ℤ (pos grid *ℤ n -ℤ pos at *ℤ pos d) *ℤ pos e

-- the orientation, over one denominator
orientation_is : (grid : ℕ) (a b : ℕ × ℕ) (n m : ℤ) (d e : ℕ) → 0 < grid → 0 < d → 0 < e
    → orientation (grid_point grid a) (grid_point grid b) (record { x = n ÷ d; y = m ÷ e })
    ≡ (product_at grid a.0 b.0 a.1 m e d -ℤ product_at grid a.1 b.1 a.0 n d e) ÷ (grid * grid * (d * e))
orientation_is grid a b n m d e p q r =
    let run = pos b.0 -ℤ pos a.0 in
    let rise = pos b.1 -ℤ pos a.1 in
    let up = m *ℤ pos grid -ℤ pos a.1 *ℤ pos e in
    let across = n *ℤ pos grid -ℤ pos a.0 *ℤ pos d in
    let eg = mul-pos r p in
    let dg = mul-pos q p in
    let geg = mul-pos p eg in
    let gdg = mul-pos p dg in
    ap₂ (λ s t. s -ℚ t)
    (ap₂ ◌*ℚ◌ (over-sub_same (pos b.0) (pos a.0) grid p) (over-sub m (pos a.1) e grid r p) ∙ over-product run up grid (e * grid) p eg)
    (ap₂ ◌*ℚ◌ (over-sub_same (pos b.1) (pos a.1) grid p) (over-sub n (pos a.0) d grid q p) ∙ over-product rise across grid (d * grid) p dg)
    ∙ over-sub (run *ℤ up) (rise *ℤ across) (grid * (e * grid)) (grid * (d * grid)) geg gdg
    ∙ over_same ((run *ℤ up) *ℤ pos (grid * (d * grid)) -ℤ (rise *ℤ across) *ℤ pos (grid * (e * grid)))
    (product_at grid a.0 b.0 a.1 m e d -ℤ product_at grid a.1 b.1 a.0 n d e)
    (grid * (e * grid) * (grid * (d * grid))) (grid * grid * (d * e)) (mul-pos geg gdg) (mul-pos (mul-pos p p) (mul-pos q r))
    (ring ℤ_ring (run ∷ rise ∷ n ∷ m ∷ pos d ∷ pos e ∷ pos grid ∷ pos a.0 ∷ pos a.1 ∷ [])
    (((var 0 ⊠ (var 3 ⊠ var 6 ⊟ var 8 ⊠ var 5)) ⊠ (var 6 ⊠ (var 4 ⊠ var 6)) ⊟ (var 1 ⊠ (var 2 ⊠ var 6 ⊟ var 7 ⊠ var 4)) ⊠
    (var 6 ⊠ (var 5 ⊠ var 6))) ⊠ (var 6 ⊠ var 6 ⊠ (var 4 ⊠ var 5)))
    (((var 0 ⊠ (var 6 ⊠ var 3 ⊟ var 8 ⊠ var 5)) ⊠ var 4 ⊟ (var 1 ⊠ (var 6 ⊠ var 2 ⊟ var 7 ⊠ var 4)) ⊠ var 5) ⊠
    (var 6 ⊠ (var 5 ⊠ var 6) ⊠ (var 6 ⊠ (var 4 ⊠ var 6))))
    refl)

-- the order of two numbers is that of their difference and 0
int_cmp_sub : (l r : ℤ) → int_cmp l r ≡ int_cmp (l -ℤ r) (pos 0)
int_cmp_sub l r = grind (arith, ints)

-- the same, as cross products
int_cmp_over_one : (l r : ℤ) (k : ℕ) → int_cmp l r ≡ int_cmp ((l -ℤ r) *ℤ pos 1) (pos 0 *ℤ pos k)
int_cmp_over_one l r k = int_cmp_sub l r ∙ sym (ap₂ int_cmp (*ℤ-pos_one (l -ℤ r)) (zero-*ℤ (pos k)))

-- the order of a positive number and 0
positive : (n : ℕ) → 0 < n → pos 0 <ℤ pos n
positive n p = record { lt = lt→ltb 0 n p }

-- the order of the two products is that of the orientation and 0
pub int_cmp-products : (grid : ℕ) (a b : ℕ × ℕ) (n m : ℤ) (d e : ℕ) → 0 < grid → 0 < d → 0 < e
    → int_cmp (product_at grid a.0 b.0 a.1 m e d) (product_at grid a.1 b.1 a.0 n d e)
    ≡ order_of (orientation (grid_point grid a) (grid_point grid b) (record { x = n ÷ d; y = m ÷ e })) (whole 0)
int_cmp-products grid a b n m d e p q r =
    let l = product_at grid a.0 b.0 a.1 m e d in
    let s = product_at grid a.1 b.1 a.0 n d e in
    let k = grid * grid * (d * e) in
    int_cmp_over_one l s k
    ∙ order_of_written (l -ℤ s) (pos 0) (pos k) (pos 1) (positive k (mul-pos (mul-pos p p) (mul-pos q r))) (positive 1 (omega arith))
    ∙ ap (λ t. order_of t (whole 0)) (sym (orientation_is grid a b n m d e p q r))

-- the tests of an order
is_lt_by : (s t : Bool) → (T (not s) → T t) → IsTrue (is_lt (cond s (cond t Equal Less) Greater)) ↔ T (not t)
is_lt_by true true h = grind arith
is_lt_by true false h = grind arith
is_lt_by false true h = grind arith
is_lt_by false false h = absurd (h tt)

-- whether an order is Less
is_lt-order_of : (x y : ℚ) → IsTrue (is_lt (order_of x y)) ↔ (x <ℚ y)
is_lt-order_of x y =
    let tests = is_lt_by (at_most x y) (at_most y x) (λ h. (lt_le y x (record { lt = h })).le) in
    (λ h. record { lt = tests.0 h }, λ h. tests.1 h.lt)

-- the same by the steps of a call
pub below_by_test : (x y : ℚ) (o : Ordering) (b : Bool) → b ≡ is_lt o → o ≡ order_of x y → IsTrue b ↔ (x <ℚ y)
below_by_test x y o b f g = (λ h. (is_lt-order_of x y).0 (sym (ap is_lt g) ∙ sym f ∙ h), λ h. f ∙ ap is_lt g ∙ (is_lt-order_of x y).1 h)

-- where the test is false
pub at_least_by_test : (x y : ℚ) (o : Ordering) (b : Bool) → b ≡ false → b ≡ is_lt o → o ≡ order_of x y → y ≤ℚ x
at_least_by_test x y o b e f g = le_or_lt y x (λ h. h) (λ h. let t : b ≡ true = (below_by_test x y o b f g).1 h in absurd (cc))
