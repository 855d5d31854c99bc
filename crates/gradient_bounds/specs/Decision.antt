-- How the tests are decided: by whole numbers for the heights of the corners, in units of 2^−bits.
-- The number of an upper corner less that of a lower one is within 256 units of the value of their function, for each unit of the function's weight.

use Rattle.std.specs.Prelude.{◌≡◌, ℕ, ◌+◌, ◌-◌, ◌*◌, ◌^◌, ◌≤◌, List, length, slice_index_or, ℤ, pos, ◌+ℤ◌, ◌-ℤ◌, ◌*ℤ◌, neg_ℤ, ◌≤ℤ◌, unsigned_abs}
use Rattle.std.specs.Int.{int_div_euclid}
use Rattle.std.specs.List.{All}
use Rattle.edge_words.specs.Letters.{IsPlace}
use Rattle.exp_sums.specs.FormalPoint.{FormalPoint}
use Rattle.exp_sums.specs.declared.sizes.Sizes.{Sizes}
use Rattle.unfolding.specs.Shift.{IsShift}
use Rattle.defining_functions.specs.Functions.{defining_function}
use Rattle.defining_functions.specs.Sizes.{sizes_of}
use Rattle.gradient_bounds.specs.declared.neighbourhood.Neighbourhood.{Neighbourhood}
use Rattle.gradient_bounds.specs.declared.threshold.Measure.{Measure}
use Rattle.gradient_bounds.specs.declared.threshold.Measure.TheVariants.{Reach, Bend}
use Rattle.gradient_bounds.specs.declared.threshold.Threshold.{Threshold}

-- ---- what a function needs

-- n / d, rounded up
abbrev pub rounded_up : ℤ → ℤ → ℤ
rounded_up n d = neg_ℤ (int_div_euclid (neg_ℤ n) d)

-- the slack 2^−low in units, for each unit of the weight and one more
abbrev pub margin_units : ℕ → ℕ → ℕ → ℤ
margin_units bits low weight = pos (2 ^ (bits - low) * (1 + weight))

-- the size that a threshold measures
abbrev pub measured : Measure → Sizes → ℕ
measured Reach s = s.reach
measured Bend s = s.bend

-- a threshold in units: rate · size / parts, rounded up, and the slack for each unit of the weight and one more
abbrev pub threshold_at : Threshold → Sizes → ℤ
threshold_at t s = rounded_up (t.rate *ℤ pos (measured t.measure s)) t.parts +ℤ t.slack *ℤ pos (1 + s.weight)

-- and the errors of the sines: with as much the least value that the number allows reaches the threshold
abbrev pub needed_at : Threshold → Sizes → ℤ
needed_at t s = pos (256 * s.weight) +ℤ threshold_at t s

-- what a function has to reach, and what its number has to
abbrev pub threshold_by : Threshold → FormalPoint → ℤ
threshold_by t f = threshold_at t (sizes_of f)

abbrev pub needed_by : Threshold → FormalPoint → ℤ
needed_by t f = needed_at t (sizes_of f)

-- a threshold whose numbers are so small that products of them fit
pub record IsThreshold (t : Threshold) : Type 0 where
  pub rate_at_least : pos 0 ≤ℤ t.rate
  pub rate_at_most : t.rate ≤ℤ pos (2 ^ 66)
  pub parts_at_least : pos 1 ≤ℤ t.parts
  pub parts_at_most : t.parts ≤ℤ pos (2 ^ 42)
  pub slack_at_least : pos 1 ≤ℤ t.slack
  pub slack_at_most : t.slack ≤ℤ pos (2 ^ 60)

-- In a neighbourhood, where pi is at most `pi` units: the drift, pi·reach·radius / den rounded up, and the slack 2^−low. So far may the value of a
-- function with this reach change from the centre to another point.
abbrev pub drift_threshold : ℕ → ℕ → ℤ → Neighbourhood → Threshold
drift_threshold bits low pi r = record { measure = Reach; rate = pi *ℤ r.radius; parts = r.centre.den; slack = pos (2 ^ (bits - low)) }

-- ---- pairs of corners

-- a number for each of the word's corners on one side, one for each height
pub record AreNumbers (w : List ℕ) (height : FormalPoint → List ℕ → ℕ → FormalPoint) (numbers : List ℤ) : Type 0 where
  pub count : length numbers ≡ length w
  pub small : All (λ z. unsigned_abs z ≤ 2 ^ 76) numbers
  pub same : (i j : ℕ) → IsPlace w i → IsPlace w j → ((v : FormalPoint) → IsShift w v → height v w i ≡ height v w j)
      → slice_index_or numbers (i - 1) (pos 0) ≡ slice_index_or numbers (j - 1) (pos 0)

-- the l-th number is the greatest
abbrev pub IsGreatest : List ℕ → List ℤ → ℕ → Type 0
IsGreatest w numbers l = (j : ℕ) → IsPlace w j → slice_index_or numbers (j - 1) (pos 0) ≤ℤ slice_index_or numbers (l - 1) (pos 0)

-- the number of the k-th upper corner less that of the l-th lower one, counted from 1
abbrev pub difference : List ℤ → List ℤ → ℕ → ℕ → ℤ
difference uppers lowers k l = slice_index_or uppers (k - 1) (pos 0) -ℤ slice_index_or lowers (l - 1) (pos 0)

-- a difference reaches what the function of the two corners needs
abbrev pub Reaches : (FormalPoint → ℤ) → List ℕ → ℕ → ℕ → ℤ → Type 0
Reaches needs w k l z = (v : FormalPoint) → IsShift w v → needs (defining_function v w k l) ≤ℤ z

-- it reaches what each function of the k-th upper corner needs
abbrev pub ReachesInRow : (FormalPoint → ℤ) → List ℕ → ℕ → ℤ → Type 0
ReachesInRow needs w k z = (l : ℕ) → IsPlace w l → Reaches needs w k l z

-- and what each function of the word needs
abbrev pub ReachesAll : (FormalPoint → ℤ) → List ℕ → ℤ → Type 0
ReachesAll needs w z = (k : ℕ) → IsPlace w k → ReachesInRow needs w k z

-- it lies as far below 0
abbrev pub FallsBelow : (FormalPoint → ℤ) → List ℕ → ℕ → ℕ → ℤ → Type 0
FallsBelow needs w k l z = (v : FormalPoint) → IsShift w v → z ≤ℤ neg_ℤ (needs (defining_function v w k l))

-- each difference reaches what its function needs
abbrev pub EachReaches : (FormalPoint → ℤ) → List ℕ → List ℤ → List ℤ → Type 0
EachReaches needs w uppers lowers = (k l : ℕ) → IsPlace w k → IsPlace w l → Reaches needs w k l (difference uppers lowers k l)

-- one difference of the k-th upper number lies as far below 0
pub record SomeInRowFalls (needs : FormalPoint → ℤ) (w : List ℕ) (uppers lowers : List ℤ) (k : ℕ) : Type 0 where
  pub lower : ℕ
  pub is_lower : IsPlace w lower
  pub falls : FallsBelow needs w k lower (difference uppers lowers k lower)

-- one of all differences does
pub record SomeFallsBelow (needs : FormalPoint → ℤ) (w : List ℕ) (uppers lowers : List ℤ) : Type 0 where
  pub upper : ℕ
  pub is_upper : IsPlace w upper
  pub row : SomeInRowFalls needs w uppers lowers upper
