-- How far a point of a box can be from its centre.
use Rattle.std.proofs.Common.{◌≡◌, refl, sym, ap, ◌∙◌, ℕ, ◌+◌, ◌*◌, ◌^◌, pos, [], ◌∷◌, arith}
use Rattle.std.proofs.Math.Pow.{pow_pos}
use Rattle.std.proofs.lemmas.Grind.{pow_more}
use Rattle.ring_solver.specs.Expression.{num, ◌⊞◌, ◌⊟◌, opp}
use Rattle.ring_solver.specs.Ordered.{le, same}
use Rattle.ring_solver.proofs.Certificate.{le₄}
use Rattle.rat_core.specs.Fraction.{ℚ, ◌+ℚ◌, ◌-ℚ◌, ◌≤ℚ◌, abs}
use Rattle.rat_core.proofs.Laws.{ℚ_ordered, over_same}
use Rattle.rat_core.proofs.Order.{abs_le}
use Rattle.rat_core.proofs.Quotients.{over-add_same}
use Rattle.rational_polygon.specs.Point.{Point}
use Rattle.rational_polygon.specs.Square.{Square, dyadic, half_side, centre, IsInBox}

-- a dyadic fraction over the next power
finer : (n level : ℕ) → dyadic n level ≡ dyadic (2 * n) (level + 1)
finer n level =
    let cross : n * 2 ^ (level + 1) ≡ 2 * n * 2 ^ level = rw (pow_more 2 level) (omega arith) in
    over_same (pos n) (pos (2 * n)) (2 ^ level) (2 ^ (level + 1)) (pow_pos level) (pow_pos (level + 1)) (ap pos cross)

-- half a step on
half_step : (n m level : ℕ) → n + 1 ≡ m → dyadic n (level + 1) +ℚ dyadic 1 (level + 1) ≡ dyadic m (level + 1)
half_step n m level is = over-add_same n 1 (2 ^ (level + 1)) (pow_pos (level + 1)) ∙ ap (λ k. dyadic k (level + 1)) is

-- the middle of a stretch, from its start and to its end
pub from_start : (i level : ℕ) → dyadic (2 * i + 1) (level + 1) ≡ dyadic (i + 0) level +ℚ dyadic 1 (level + 1)
from_start i level =
    sym (ap (λ t. t +ℚ dyadic 1 (level + 1)) (finer (i + 0) level) ∙ half_step (2 * (i + 0)) (2 * i + 1) level (omega arith))

pub from_end : (i level : ℕ) → dyadic (i + 1) level ≡ dyadic (2 * i + 1) (level + 1) +ℚ dyadic 1 (level + 1)
from_end i level = finer (i + 1) level ∙ sym (half_step (2 * i + 1) (2 * (i + 1)) level (omega arith))

-- a point of a stretch is at most half of it from the middle
near_middle : (i level : ℕ) (x : ℚ) → dyadic (i + 0) level ≤ℚ x → x ≤ℚ dyadic (i + 1) level → abs (dyadic (2 * i + 1) (level + 1) -ℚ x) ≤ℚ dyadic 1 (level + 1)
near_middle i level x low high =
    let middle = dyadic (2 * i + 1) (level + 1) in
    let half = dyadic 1 (level + 1) in
    abs_le (middle -ℚ x) half
    (le₄ ℚ_ordered (λ a c h x. c ⊟ x) (λ a c h x. h) (λ a c h x. le a x ∷ same (num 1) c (a ⊞ h) ∷ []) refl (dyadic (i + 0) level) middle half x
    (low, (from_start i level, tt)))
    (le₄ ℚ_ordered (λ b c h x. opp (c ⊟ x)) (λ b c h x. h) (λ b c h x. le x b ∷ same (num 1) b (c ⊞ h) ∷ []) refl
    (dyadic (i + 1) level) middle half x (high, (from_end i level, tt)))

-- a point of a box differs from the centre by at most half the side in each coordinate
pub near_centre : (box : Square) (p : Point) → IsInBox box p → (abs ((centre box).x -ℚ p.x) ≤ℚ half_side box) × (abs ((centre box).y -ℚ p.y) ≤ℚ half_side box)
near_centre box p within = (near_middle box.i box.level p.x within.left within.right, near_middle box.j box.level p.y within.below within.above)
