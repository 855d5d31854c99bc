-- What a `Plane` keeps of its triangle, and the numbers of single directions.

use Rattle.std.specs.Prelude.{◌≡◌, ℕ, ◌^◌, ◌≤◌, ℤ, pos, ◌+ℤ◌, ◌≤ℤ◌, unsigned_abs}
use Rattle.rat_core.specs.Fraction.{ℚ, ◌÷◌, ◌+ℚ◌}
use Rattle.rat_core.specs.Written.{value}
use Rattle.exp_sums.specs.declared.direction.Dir.{Dir}
use Rattle.trig_meaning.specs.FromSomeOn.{FromSomeOn}
use Rattle.trig_meaning.specs.Turn.{sine_of_turn}
use Rattle.trig_meaning.specs.Value.{turn_of}
use Rattle.directed_fixed.specs.Ends.{Encloses}
use Rattle.sine_fixed.specs.declared.angles.Angles.{Angles}
use Rattle.sine_fixed.specs.Angles.{IsAngles, first_angle, second_angle}
use Rattle.plane_points.specs.declared.spot.Spot.{Spot}
use Rattle.plane_points.specs.Spots.{TriangleAngles}

-- the triangle's angles over one denominator, which is at most 2^40
pub record IsPlane (at : TriangleAngles) (a : Angles) : Type 0 where
  pub angles : IsAngles a
  pub small : a.den ≤ℤ pos (2 ^ 40)
  pub first : first_angle a ≡ value at.0
  pub second : second_angle a ≡ value at.1

-- in units of 2^−60, the approximations are from the number to 256 more, from some n on
abbrev pub IsLowOf : ℤ → (ℕ → ℚ) → Type 0
IsLowOf z value = FromSomeOn (λ n. Encloses 60 (record { lo = z; hi = z +ℤ pos 256 }) (value n))

-- so are the coordinates of a direction
pub record IsUnitSpot (at : TriangleAngles) (d : Dir) (s : Spot) : Type 0 where
  pub first : IsLowOf s.x (λ n. sine_of_turn n (turn_of d (value at.0) (value at.1) +ℚ pos 1 ÷ 2))
  pub second : IsLowOf s.y (λ n. sine_of_turn n (turn_of d (value at.0) (value at.1)))

-- both numbers are from -size to size
pub record IsSmallSpot (size : ℕ) (s : Spot) : Type 0 where
  pub x : unsigned_abs s.x ≤ size
  pub y : unsigned_abs s.y ≤ size
