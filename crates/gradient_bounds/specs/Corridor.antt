-- The corridor of a word in a triangle.
-- A periodic path with the word runs along the shift of the word's unfolding, through every crossed edge. There is room for it exactly where every
-- upper corner lies strictly to the left of every lower one, seen along the shift.
-- Source: Richard Evan Schwartz, Obtuse Triangular Billiards I: Near the (2, 3, 6) Triangle, Experimental Mathematics 15 (2006), and the usual
-- account of unfolding.

use Rattle.std.specs.Prelude.{ℕ, List}
use Rattle.rat_core.specs.Fraction.{ℚ}
use Rattle.edge_words.specs.Letters.{IsPlace}
use Rattle.edge_words.specs.Stable.{IsStable}
use Rattle.exp_sums.specs.FormalPoint.{FormalPoint}
use Rattle.trig_meaning.specs.Value.{IsPositiveAt}
use Rattle.unfolding.specs.Shift.{IsShift}
use Rattle.defining_functions.specs.Functions.{defining_function}

-- the word is stable, it has a shift, and P holds of each of its defining functions
pub record EachFunction (w : List ℕ) (P : FormalPoint → Type 0) : Type 0 where
  pub stable : IsStable w
  pub shift : FormalPoint
  pub is_shift : IsShift w shift
  pub each : (k l : ℕ) → IsPlace w k → IsPlace w l → P (defining_function shift w k l)

-- the word is stable, it has a shift, and P holds of one of its defining functions
pub record SomeFunction (w : List ℕ) (P : FormalPoint → Type 0) : Type 0 where
  pub stable : IsStable w
  pub shift : FormalPoint
  pub is_shift : IsShift w shift
  pub upper : ℕ
  pub lower : ℕ
  pub is_upper : IsPlace w upper
  pub is_lower : IsPlace w lower
  pub holds : P (defining_function shift w upper lower)

-- The triangle (x, y) has a corridor of the word: every upper corner lies strictly to the left of every lower one.
abbrev pub HasCorridor : List ℕ → ℚ → ℚ → Type 0
HasCorridor w x y = EachFunction w (λ f. IsPositiveAt f x y)
