-- The level of a path: how high it runs in the unfolding of its word.
-- Unfolded, a periodic path with a stable word is a straight line along the word's shift. So all its points have one height, and the line runs below each
-- upper corner and above each lower one.
-- Source: Richard Evan Schwartz, Obtuse Triangular Billiards I: Near the (2, 3, 6) Triangle, Experimental Mathematics 15 (2006), and the usual account
-- of unfolding. That the path runs in the middle, and the bounds on the errors, are this program's own.

use Rattle.std.specs.Prelude.{ℕ, ◌^◌, List, ℤ, pos}
use Rattle.rat_core.specs.Fraction.{ℚ, ◌÷◌, whole, ◌+ℚ◌, ◌-ℚ◌, ◌*ℚ◌, ◌≤ℚ◌, ◌<ℚ◌, abs}
use Rattle.edge_words.specs.Letters.{IsPlace}
use Rattle.exp_sums.specs.FormalPoint.{FormalPoint}
use Rattle.trig_meaning.specs.FromSomeOn.{FromSomeOn}
use Rattle.trig_meaning.specs.Value.{value_at}
use Rattle.defining_functions.specs.Heights.{upper_height, lower_height}

-- a height in units of 2^−60
abbrev pub height_of : ℤ → ℚ
height_of h = h ÷ 2 ^ 60

-- along the shift v of the word w, in the triangle (x, y)
module _ (v : FormalPoint) (w : List ℕ) (x y : ℚ) where
  -- the height of the k-th upper corner, and of the k-th lower one, by the n-th approximation
  abbrev pub upper_at : ℕ → ℕ → ℚ
  upper_at n k = value_at n (upper_height v w k) x y

  abbrev pub lower_at : ℕ → ℕ → ℚ
  lower_at n k = value_at n (lower_height v w k) x y

  -- no upper corner is lower than the k-th, and no lower corner is higher than it
  abbrev pub IsLowestUpper : ℕ → ℕ → Type 0
  IsLowestUpper n k = (j : ℕ) → IsPlace w j → upper_at n k ≤ℚ upper_at n j

  abbrev pub IsHighestLower : ℕ → ℕ → Type 0
  IsHighestLower n k = (j : ℕ) → IsPlace w j → lower_at n j ≤ℚ lower_at n k

  -- from some n on, twice the height is within 2^−35 of the sum of the lowest upper and the highest lower corner's
  abbrev pub IsInTheMiddle : ℤ → Type 0
  IsInTheMiddle h = FromSomeOn (λ n. (k l : ℕ) → IsPlace w k → IsPlace w l → IsLowestUpper n k → IsHighestLower n l
      → abs (whole 2 *ℚ height_of h -ℚ (upper_at n k +ℚ lower_at n l)) ≤ℚ pos 1 ÷ 2 ^ 35)

  -- by some e > 0 the height is, from some n on, above each lower corner's and below each upper one's
  abbrev pub IsBetween : ℤ → Type 0
  IsBetween h = (e : ℚ) × (whole 0 <ℚ e)
      × FromSomeOn (λ n. (k : ℕ) → IsPlace w k → (lower_at n k +ℚ e ≤ℚ height_of h) × (height_of h +ℚ e ≤ℚ upper_at n k))

  -- a path may run at this height
  pub record IsLevel (h : ℤ) : Type 0 where
    pub middle : IsInTheMiddle h
    pub between : IsBetween h
