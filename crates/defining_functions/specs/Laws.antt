-- How functions and heights hang together, and what sums over their terms are along the walk.

use Rattle.std.specs.Prelude.{◌≡◌, ℕ, ◌-◌, List, ℤ, pos, ◌+ℤ◌, ◌-ℤ◌, ◌*ℤ◌}
use Rattle.edge_words.specs.Letters.{IsPlace, letter_at}
use Rattle.exp_sums.specs.declared.direction.Dir.{Dir}
use Rattle.exp_sums.specs.FormalPoint.{FormalPoint, monomial, ◌+ₚ◌, ◌-ₚ◌}
use Rattle.exp_sums.specs.Weigh.{weigh_ints}
use Rattle.unfolding.specs.Triangle.{next_corner, corner_of, centre_of}
use Rattle.defining_functions.specs.Functions.{defining_function}
use Rattle.defining_functions.specs.Heights.{cross_product, upper_height, lower_height}

-- a defining function is the difference of two heights
abbrev pub FunctionsAreDifferences : Type 0
FunctionsAreDifferences =
    (v : FormalPoint) (w : List ℕ) (k l : ℕ) → defining_function v w k l ≡ upper_height v w k -ₚ lower_height v w l

-- the number of a point: the sum, over the terms of its cross product with the shift v, of the coefficients times any numbers of the directions
abbrev pub number : (Dir → ℤ) → FormalPoint → FormalPoint → ℤ
number of_dir v z = weigh_ints of_dir (cross_product v z)

-- numbers are linear in the point: so the number of a sum of directions is the sum of the numbers of its directions
pub record NumbersAddUp : Type 0 where
  pub of_sum : (f : Dir → ℤ) (v p q : FormalPoint) → number f v (p +ₚ q) ≡ number f v p +ℤ number f v q
  pub of_difference : (f : Dir → ℤ) (v p q : FormalPoint) → number f v (p -ₚ q) ≡ number f v p -ℤ number f v q
  pub of_term : (f : Dir → ℤ) (v : FormalPoint) (c : ℤ) (d : Dir) → number f v (monomial c d) ≡ c *ℤ number f v (monomial (pos 1) d)

-- along a word: the first centre has the number 0, and each next one that of the ends of the crossed edge less that of the centre before
pub record WalkAddsUp : Type 0 where
  pub first : (f : Dir → ℤ) (v : FormalPoint) (w : List ℕ) → number f v (centre_of w 0) ≡ pos 0
  pub next : (f : Dir → ℤ) (v : FormalPoint) (w : List ℕ) (k : ℕ) → IsPlace w k →
      let e = next_corner (letter_at w k) in
      number f v (centre_of w k) ≡ number f v (corner_of w (k - 1) e) +ℤ number f v (corner_of w (k - 1) (next_corner e)) -ℤ number f v (centre_of w (k - 1))
