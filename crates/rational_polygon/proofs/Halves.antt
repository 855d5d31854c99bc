-- A box is the union of its four children.
use Rattle.std.proofs.Common.{◌≡◌, sym, ap₂, subst, ℕ, ◌+◌, ◌*◌, ◌/◌, ◌%◌, ◌^◌, ◌<◌, ◌≤◌, pos, arith}
use Rattle.std.proofs.Math.Pow.{pow_pos}
use Rattle.std.proofs.Math.Nat.{mul-le-mul_right}
use Rattle.std.proofs.lemmas.Grind.{pow_more}
use Rattle.ring_solver.proofs.Whole.{pos_le}
use Rattle.rat_core.specs.Fraction.{ℚ, ◌≤ℚ◌}
use Rattle.rat_core.proofs.Laws.{over_le, le_trans, lt_le, le_or_lt}
use Rattle.rat_core.proofs.Quotients.{over_mono}
use Rattle.rational_polygon.specs.Point.{Point}
use Rattle.rational_polygon.specs.Square.{Square, child, dyadic, IsInBox}

-- a dyadic fraction against one of the next level
finer_above : (m n level : ℕ) → 2 * m ≤ n → dyadic m level ≤ℚ dyadic n (level + 1)
finer_above m n level h =
    over_le (pos m) (pos n) (2 ^ level) (2 ^ (level + 1)) (pow_pos level) (pow_pos (level + 1))
    (pos_le (m * 2 ^ (level + 1)) (n * 2 ^ level) (rw (pow_more 2 level) (omega (arith, mul-le-mul_right (2 ^ level) h))))

-- and the other way round
finer_below : (m n level : ℕ) → n ≤ 2 * m → dyadic n (level + 1) ≤ℚ dyadic m level
finer_below m n level h =
    over_le (pos n) (pos m) (2 ^ (level + 1)) (2 ^ level) (pow_pos (level + 1)) (pow_pos level)
    (pos_le (n * 2 ^ level) (m * 2 ^ (level + 1)) (rw (pow_more 2 level) (omega (arith, mul-le-mul_right (2 ^ level) h))))

-- a point of a stretch lies in one of its halves
half_of : (i level : ℕ) (x : ℚ) → dyadic (i + 0) level ≤ℚ x → x ≤ℚ dyadic (i + 1) level → (a : ℕ) × (a ≤ 1)
    × (dyadic (2 * i + a + 0) (level + 1) ≤ℚ x) × (x ≤ℚ dyadic (2 * i + a + 1) (level + 1))
half_of i level x low high =
    let middle = dyadic (2 * i + 0 + 1) (level + 1) in
    le_or_lt x middle
    (λ h. (
      0,
      omega arith,
      le_trans (dyadic (2 * i + 0 + 0) (level + 1)) (dyadic (i + 0) level) x
          (finer_below (i + 0) (2 * i + 0 + 0) level (omega arith)) low,
      h,
    ))
    (λ h. (
      1,
      omega arith,
      le_trans (dyadic (2 * i + 1 + 0) (level + 1)) middle x
          (over_mono (2 * i + 1 + 0) (2 * i + 0 + 1) (2 ^ (level + 1)) (pow_pos (level + 1)) (omega arith)) (lt_le middle x h),
      le_trans x (dyadic (i + 1) level) (dyadic (2 * i + 1 + 1) (level + 1)) high (finer_above (i + 1) (2 * i + 1 + 1) level (omega arith)),
    ))

-- a point of a box lies in one of its children
pub some_child : (box : Square) (p : Point) → IsInBox box p → (c : ℕ) × (c < 4) × IsInBox (child box c) p
some_child box p within =
    let across = half_of box.i box.level p.x within.left within.right in
    let up = half_of box.j box.level p.y within.below within.above in
    let part : Square = record { i = 2 * box.i + across.0; j = 2 * box.j + up.0; level = box.level + 1 } in
    let column : (across.0 + 2 * up.0) % 2 ≡ across.0 = omega (arith, across.1) in
    let row : (across.0 + 2 * up.0) / 2 ≡ up.0 = omega (arith, across.1) in
    let is : child box (across.0 + 2 * up.0) ≡ part = ap₂ (λ a b. record { i = 2 * box.i + a; j = 2 * box.j + b; level = box.level + 1 }) column row in (
      across.0 + 2 * up.0,
      omega (arith, across.1, up.1),
      subst (λ (t : Square). IsInBox t p) (sym is) (record { left = across.2; right = across.3; below = up.2; above = up.3 }),
    )

-- each child lies in its box
pub child_within : (box : Square) (p : Point) (c : ℕ) → c < 4 → IsInBox (child box c) p → IsInBox box p
child_within box p c lt within =
    let l = box.level in
    let i = 2 * box.i + c % 2 in
    let j = 2 * box.j + c / 2 in
    record {
      left = le_trans (dyadic (box.i + 0) l) (dyadic (i + 0) (l + 1)) p.x (finer_above (box.i + 0) (i + 0) l (omega arith)) within.left;
      right = le_trans p.x (dyadic (i + 1) (l + 1)) (dyadic (box.i + 1) l) within.right (finer_below (box.i + 1) (i + 1) l (omega arith));
      below = le_trans (dyadic (box.j + 0) l) (dyadic (j + 0) (l + 1)) p.y (finer_above (box.j + 0) (j + 0) l (omega arith)) within.below;
      above = le_trans p.y (dyadic (j + 1) (l + 1)) (dyadic (box.j + 1) l) within.above (finer_below (box.j + 1) (j + 1) l (omega arith));
    }
