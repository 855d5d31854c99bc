-- Whole numbers that stand for places in the plane of a triangle, in units of 2^−55.

use Rattle.std.specs.Prelude.{ℕ, ◌+◌, ◌*◌, ◌/◌, ◌%◌, ◌^◌, ◌≤◌, List, length, slice_index_or, ◌≡◌}
use Rattle.std.specs.Prelude.{ℤ, pos, ◌+ℤ◌, ◌-ℤ◌, ◌*ℤ◌, unsigned_abs}
use Rattle.std.specs.List.{All}
use Rattle.rat_core.specs.Fraction.{ℚ, ◌÷◌, ◌+ℚ◌, ◌-ℚ◌, ◌*ℚ◌, ◌≤ℚ◌, abs}
use Rattle.rat_core.specs.Written.{Written, value}
use Rattle.exp_sums.specs.declared.direction.Dir.{Dir}
use Rattle.exp_sums.specs.FormalPoint.{FormalPoint}
use Rattle.exp_sums.specs.Weigh.{weigh_ints}
use Rattle.trig_meaning.specs.FromSomeOn.{FromSomeOn}
use Rattle.trig_meaning.specs.Turn.{sine_of_turn}
use Rattle.trig_meaning.specs.Value.{turn_of}
use Rattle.defining_functions.specs.Tables.{IsTable}
use Rattle.word_search.specs.declared.place.Place.{Place}

-- the number in units of 2^−55
abbrev pub in_units : ℤ → ℚ
in_units z = (z ÷ 1) *ℚ (pos 1 ÷ 2 ^ 55)

-- from some n on, the number is within 5 units of the approximations
abbrev pub IsNearSine : ℤ → (ℕ → ℚ) → Type 0
IsNearSine z sine = FromSomeOn (λ n. abs (in_units z -ℚ sine n) ≤ℚ pos 5 ÷ 2 ^ 55)

-- so near are both numbers to the coordinates of a direction at (x, y)
pub record IsUnit (x y : ℚ) (d : Dir) (p : Place) : Type 0 where
  pub first : IsNearSine p.x (λ n. sine_of_turn n (turn_of d x y +ℚ pos 1 ÷ 2))
  pub second : IsNearSine p.y (λ n. sine_of_turn n (turn_of d x y))

-- both numbers are so small that k directions added up fit
pub record IsSmallPlace (k : ℕ) (p : Place) : Type 0 where
  pub x : unsigned_abs p.x ≤ k * (13 * 2 ^ 53)
  pub y : unsigned_abs p.y ≤ k * (13 * 2 ^ 53)

-- ---- directions by number

-- the directions with two odd numbers from −25 to 25 have the numbers from 0 to 675
abbrev pub dir_at : ℕ → Dir
dir_at i = record { m = pos (2 * (i / 26)) -ℤ pos 25; n = pos (2 * (i % 26)) -ℤ pos 25 }

abbrev pub number_of : Dir → ℕ
number_of d = unsigned_abs (d.m +ℤ pos 25) / 2 * 26 + unsigned_abs (d.n +ℤ pos 25) / 2

-- where the mirror in the edge from p to q takes r, seen from the new centre and but for its sign
abbrev pub image_of : Dir → Dir → Dir → Dir
image_of p q r = record { m = p.m +ℤ q.m -ℤ r.m; n = p.n +ℤ q.n -ℤ r.n }

-- a place for each of these directions
pub record AreSmall (units : List Place) : Type 0 where
  pub count : length units ≡ 676
  pub small : All (IsSmallPlace 1) units

pub record AreUnits (at : Written × Written) (units : List Place) : Type 0 where
  pub small : AreSmall units
  pub near : IsTable (λ i p. IsUnit (value at.0) (value at.1) (dir_at i) p) 676 units

-- ---- formal points

-- the place of a direction
abbrev pub unit_in : List Place → Dir → Place
unit_in units d = slice_index_or units (number_of d) (record { x = pos 0; y = pos 0 })

-- the place of a formal point: the sum over its terms of the coefficient times the direction's place
abbrev pub place_of : List Place → FormalPoint → Place
place_of units p = record { x = weigh_ints (λ d. (unit_in units d).x) p; y = weigh_ints (λ d. (unit_in units d).y) p }

-- the cross product of a shift and a place
abbrev pub height_over : Place → Place → ℤ
height_over v p = v.x *ℤ p.y -ℤ v.y *ℤ p.x
