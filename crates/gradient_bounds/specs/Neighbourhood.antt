-- Neighbourhoods in the angle plane, a point or a box, and the functions that are clear or shut on one.

use Rattle.std.specs.Prelude.{ℕ, pos, ◌≤ℤ◌, unsigned_abs}
use Rattle.rat_core.specs.Fraction.{ℚ, ◌÷◌, whole, neg_ℚ, ◌+ℚ◌, ◌*ℚ◌, ◌≤ℚ◌}
use Rattle.exp_sums.specs.FormalPoint.{FormalPoint}
use Rattle.exp_sums.specs.Reach.{reach}
use Rattle.trig_meaning.specs.FromSomeOn.{FromSomeOn}
use Rattle.trig_meaning.specs.PartialSums.{pi_sum}
use Rattle.trig_meaning.specs.Value.{value_at}
use Rattle.gradient_bounds.specs.declared.neighbourhood.Neighbourhood.{Neighbourhood}
use Rattle.sine_fixed.specs.Angles.{IsAngles, first_angle, second_angle}
use Rattle.gradient_bounds.specs.Clear.{margin}

-- the radius is 0 or one part of the centre's denominator
pub record IsNeighbourhood (r : Neighbourhood) : Type 0 where
  pub angles : IsAngles r.centre
  pub at_least : pos 0 ≤ℤ r.radius
  pub at_most : r.radius ≤ℤ pos 1

-- the points whose coordinates differ from x and from y by at most the radius
pub record Ball : Type 0 where
  pub x : ℚ
  pub y : ℚ
  pub radius : ℚ

abbrev pub ball_of : Neighbourhood → Ball
ball_of r = record { x = first_angle r.centre; y = second_angle r.centre; radius = r.radius ÷ unsigned_abs r.centre.den }

-- what a function has to reach at the centre: pi·reach·radius, and its margin
abbrev pub threshold_of : ℕ → ℚ → ℚ → FormalPoint → ℚ
threshold_of n radius e f = pi_sum n *ℚ (whole (reach f) *ℚ radius) +ℚ margin e f

-- it does, from some n on
abbrev pub IsClearIn : Ball → ℚ → FormalPoint → Type 0
IsClearIn b e f = FromSomeOn (λ n. threshold_of n b.radius e f ≤ℚ value_at n f b.x b.y)

-- it lies as far below 0
abbrev pub IsShutIn : Ball → ℚ → FormalPoint → Type 0
IsShutIn b e f = FromSomeOn (λ n. value_at n f b.x b.y ≤ℚ neg_ℚ (threshold_of n b.radius e f))
