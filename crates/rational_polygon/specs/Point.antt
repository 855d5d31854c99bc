-- Points of the plane with rational coordinates.

use Rattle.rat_core.specs.Fraction.{ℚ, whole, ◌+ℚ◌, ◌-ℚ◌, ◌*ℚ◌, ◌≤ℚ◌, ◌<ℚ◌}

-- the point (x, y)
pub record Point : Type 0 where
  pub x : ℚ
  pub y : ℚ

-- The orientation of a, b and p: twice the signed area of the triangle a, b, p: positive where p is strictly left of the edge from a to b.
-- Source: Mark de Berg, Otfried Cheong, Marc van Kreveld and Mark Overmars, Computational Geometry, chapter 1.
abbrev pub orientation : Point → Point → Point → ℚ
orientation a b p = (b.x -ℚ a.x) *ℚ (p.y -ℚ a.y) -ℚ (b.y -ℚ a.y) *ℚ (p.x -ℚ a.x)

-- on which side of the edge from a to b the point p lies
abbrev pub IsStrictlyLeft : Point → Point → Point → Type 0
IsStrictlyLeft a b p = whole 0 <ℚ orientation a b p

abbrev pub IsOnOrLeft : Point → Point → Point → Type 0
IsOnOrLeft a b p = whole 0 ≤ℚ orientation a b p

abbrev pub IsStrictlyRight : Point → Point → Point → Type 0
IsStrictlyRight a b p = orientation a b p <ℚ whole 0

-- The point (x, y) is the triangle with the angles pi x, pi y and pi (1 - x - y): all three are positive.
pub record IsTriangle (p : Point) : Type 0 where
  pub first : whole 0 <ℚ p.x
  pub second : whole 0 <ℚ p.y
  pub third : p.x +ℚ p.y <ℚ whole 1
