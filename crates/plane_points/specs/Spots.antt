-- Whole numbers that stand for the coordinates of formal points at a triangle, in units of 2^−60.

use Rattle.std.specs.Prelude.{ℕ, ◌^◌, ℤ, pos}
use Rattle.rat_core.specs.Fraction.{ℚ, ◌÷◌, whole, ◌-ℚ◌, ◌*ℚ◌, ◌≤ℚ◌, abs}
use Rattle.rat_core.specs.Written.{Written, value}
use Rattle.exp_sums.specs.FormalPoint.{FormalPoint, conj, ◌*ₚ◌}
use Rattle.exp_sums.specs.Limits.{weight}
use Rattle.exp_sums.specs.SineForm.{sine_form}
use Rattle.trig_meaning.specs.FromSomeOn.{FromSomeOn}
use Rattle.trig_meaning.specs.Value.{value_at, first_coordinate, second_coordinate}
use Rattle.plane_points.specs.declared.spot.Spot.{Spot}

-- a triangle by its angles at the corners 1 and 2, in half turns
abbrev pub TriangleAngles : Type 0
TriangleAngles = Written × Written

-- the number in units of 2^−60
abbrev pub in_units : ℤ → ℚ
in_units z = z ÷ 2 ^ 60

-- from some n on, the number is within 2^−52 of the approximations, for each unit of the weight
abbrev pub IsNearCoordinate : ℕ → ℤ → (ℕ → ℚ) → Type 0
IsNearCoordinate weight z coordinate = FromSomeOn (λ n. abs (in_units z -ℚ coordinate n) ≤ℚ whole weight *ℚ (pos 1 ÷ 2 ^ 52))

-- both numbers are so near to the coordinates of the point
pub record IsSpotOf (at : TriangleAngles) (p : FormalPoint) (s : Spot) : Type 0 where
  pub first : IsNearCoordinate (weight p) s.x (λ n. first_coordinate n p (value at.0) (value at.1))
  pub second : IsNearCoordinate (weight p) s.y (λ n. second_coordinate n p (value at.0) (value at.1))

-- X·Y' − Y·X'
abbrev pub cross_product : Spot → Spot → ℚ
cross_product s t = in_units s.x *ℚ in_units t.y -ℚ in_units s.y *ℚ in_units t.x

-- From some n on, the cross product is within 2^−44 of the value of the sine form of the one point's conjugate times the other, for each unit of
-- both weights. Of a shift and the way from a lower to an upper corner this form is the defining function.
abbrev pub IsCrossProduct : TriangleAngles → FormalPoint → FormalPoint → Spot → Spot → Type 0
IsCrossProduct at p q s t =
    FromSomeOn (λ n. abs (cross_product s t -ℚ value_at n (sine_form (conj p *ₚ q)) (value at.0) (value at.1))
    ≤ℚ whole (weight p) *ℚ (whole (weight q) *ℚ (pos 1 ÷ 2 ^ 44)))
