-- Corridors with room to spare, and their failure, which a computation with rounding can see.
-- The errors of a sum of sines grow with its weight, and so does the room that is asked for. This slack is the program's own.

use Rattle.std.specs.Prelude.{ℕ, ◌+◌, ◌^◌, List, pos}
use Rattle.rat_core.specs.Fraction.{ℚ, ◌÷◌, whole, neg_ℚ, ◌+ℚ◌, ◌*ℚ◌, ◌≤ℚ◌}
use Rattle.edge_words.specs.Letters.{IsPlace}
use Rattle.edge_words.specs.Stable.{IsStable}
use Rattle.exp_sums.specs.FormalPoint.{FormalPoint}
use Rattle.exp_sums.specs.Limits.{weight}
use Rattle.exp_sums.specs.Reach.{reach}
use Rattle.trig_meaning.specs.FromSomeOn.{FromSomeOn}
use Rattle.trig_meaning.specs.PartialSums.{pi_sum}
use Rattle.trig_meaning.specs.Value.{value_at}
use Rattle.unfolding.specs.Shift.{IsShift}
use Rattle.rational_polygon.specs.Square.{Square, centre, half_side}
use Rattle.defining_functions.specs.Functions.{defining_function}
use Rattle.gradient_bounds.specs.Corridor.{EachFunction}

-- 2^−bits
abbrev pub slack : ℕ → ℚ
slack bits = pos 1 ÷ 2 ^ bits

-- what a function has to reach with the slack e: e·(1 + its weight)
abbrev pub margin : ℚ → FormalPoint → ℚ
margin e f = e *ℚ whole (1 + weight f)

-- ---- at one point

-- the function reaches its margin at (x, y), from some n on
abbrev pub IsClearFunction : ℚ → ℚ → ℚ → FormalPoint → Type 0
IsClearFunction x y e f = FromSomeOn (λ n. margin e f ≤ℚ value_at n f x y)

-- each defining function of the word does
abbrev pub IsClearAtPoint : List ℕ → ℚ → ℚ → ℚ → Type 0
IsClearAtPoint w x y e = EachFunction w (IsClearFunction x y e)

-- ---- on a box

-- How far the value of a function may fall or rise from the centre of a box to any other point of it: pi·reach·half the side. The slope of sin(pi·t)
-- is at most pi.
abbrev pub drift : ℕ → Square → FormalPoint → ℚ
drift n box f = pi_sum n *ℚ (whole (reach f) *ℚ half_side box)

-- the value at the centre, from the n-th approximation of the sine
abbrev pub central_value : ℕ → Square → FormalPoint → ℚ
central_value n box f = value_at n f (centre box).x (centre box).y

-- at the centre of the box the function reaches its drift and its margin, from some n on
abbrev pub IsClearFunctionOn : Square → ℚ → FormalPoint → Type 0
IsClearFunctionOn box e f = FromSomeOn (λ n. drift n box f +ℚ margin e f ≤ℚ central_value n box f)

-- there it is at most the negative of both together, from some n on
abbrev pub IsShutFunctionOn : Square → ℚ → FormalPoint → Type 0
IsShutFunctionOn box e f = FromSomeOn (λ n. central_value n box f ≤ℚ neg_ℚ (drift n box f +ℚ margin e f))

-- each defining function of the word is clear on the box
abbrev pub IsClear : List ℕ → Square → ℚ → Type 0
IsClear w box e = EachFunction w (IsClearFunctionOn box e)

-- the word is stable, it has a shift, and one of its defining functions is shut on the box
pub record IsShut (w : List ℕ) (box : Square) (e : ℚ) : Type 0 where
  pub stable : IsStable w
  pub shift : FormalPoint
  pub is_shift : IsShift w shift
  pub upper : ℕ
  pub lower : ℕ
  pub is_upper : IsPlace w upper
  pub is_lower : IsPlace w lower
  pub shut : IsShutFunctionOn box e (defining_function shift w upper lower)
