-- The whole numbers that a picture prints for a point of the plane.
-- One unit of a picture is 1/1000 of the radius of the circle round the first triangle. The second axis of a picture points down.
use Rattle.std.specs.Prelude.{ℕ, ℤ}
use Rattle.rat_core.specs.Fraction.{ℚ, ◌÷◌, whole, ◌-ℚ◌, ◌*ℚ◌, neg_ℚ, ◌≤ℚ◌, abs}
use Rattle.exp_sums.specs.FormalPoint.{FormalPoint}
use Rattle.trig_meaning.specs.FromSomeOn.{FromSomeOn}
use Rattle.trig_meaning.specs.Value.{first_coordinate, second_coordinate}
use Rattle.svg_pictures.specs.declared.picture_point.PicturePoint.{PicturePoint}

-- from some n on, the whole number differs from the n-th approximation by at most 1
abbrev pub IsWithinOne : ℤ → (ℕ → ℚ) → Type 0
IsWithinOne z v = FromSomeOn (λ n. abs (z ÷ 1 -ℚ v n) ≤ℚ whole 1)

-- the numbers printed for a formal point in the triangle (x, y): 1000 times its first coordinate, and −1000 times its second one
pub record IsPictureOf (p : FormalPoint) (x y : ℚ) (point : PicturePoint) : Type 0 where
  pub across : IsWithinOne point.across (λ n. whole 1000 *ℚ first_coordinate n p x y)
  pub down : IsWithinOne point.down (λ n. neg_ℚ (whole 1000 *ℚ second_coordinate n p x y))
