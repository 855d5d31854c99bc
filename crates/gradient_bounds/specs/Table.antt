-- The table of sines of a word at a point, the numbers that forms have by it, and what tests ask of these.
-- Its directions are those of the terms of the word's heights, so that each function's number is the exact difference of two heights' numbers, and the
-- error of a function's value is counted by the function's own weight, however large the two heights are.

use Rattle.std.specs.Prelude.{◌≡◌, ℕ, ◌+◌, ◌*◌, ◌^◌, ◌⊎◌, List, [], ◌∷◌, if◌then◌else◌, Option}
use Rattle.std.specs.Prelude.{ℤ, pos, ◌+ℤ◌, ◌-ℤ◌, ◌*ℤ◌, neg_ℤ, ◌≤ℤ◌}
use Rattle.std.specs.declared.cmp.Ordering.TheVariants.{Less}
use Rattle.std.specs.List.{All, Any, AllPairs}
use Rattle.rat_core.specs.Written.{Written}
use Rattle.edge_words.specs.Letters.{IsPlace}
use Rattle.exp_sums.specs.declared.direction.Dir.{Dir}
use Rattle.exp_sums.specs.Terms.{dir_cmp, is_same_dir}
use Rattle.exp_sums.specs.FormalPoint.{FormalPoint, terms}
use Rattle.exp_sums.specs.Limits.{weight}
use Rattle.exp_sums.specs.Reach.{reach}
use Rattle.exp_sums.specs.Weigh.{weigh_ints}
use Rattle.trig_meaning.specs.FromSomeOn.{FromSomeOn}
use Rattle.trig_meaning.specs.Turn.{sine_of_turn}
use Rattle.trig_meaning.specs.Value.{turn_of}
use Rattle.rat_core.specs.Fraction.{ℚ}
use Rattle.directed_fixed.specs.Ends.{Ends, Encloses}
use Rattle.unfolding.specs.Shift.{IsShift}
use Rattle.rational_polygon.specs.Square.{Square}
use Rattle.defining_functions.specs.Heights.{upper_height, lower_height}
use Rattle.gradient_bounds.specs.declared.sine_low.SineLow.{SineLow}
use Rattle.gradient_bounds.specs.Decision.{rounded_up, margin_units}

-- a stable word that is ready for tests, with the point at which its table was filled last
pub record PreparedWord : Type 0 where
  pub word : List ℕ
  pub point : Option (Written × Written)
  pub table : List SineLow

-- ---- the entries

-- d is the direction of a term of the form
abbrev pub HasDir : FormalPoint → Dir → Type 0
HasDir f d = Any (λ t. t.dir ≡ d) (terms f)

-- or of a term of one of the word's heights
pub record IsDirOfHeight (w : List ℕ) (d : Dir) : Type 0 where
  pub shift : FormalPoint
  pub is_shift : IsShift w shift
  pub corner : ℕ
  pub is_corner : IsPlace w corner
  pub has : HasDir (upper_height shift w corner) d ⊎ HasDir (lower_height shift w corner) d

-- the directions rise by m and then n, so each stands once
abbrev pub IsRising : List SineLow → Type 0
IsRising table = AllPairs (λ e e'. dir_cmp e.dir e'.dir ≡ Less) table

-- the directions rise, and are those of the heights' terms
pub record IsTableOf (w : List ℕ) (table : List SineLow) : Type 0 where
  pub rising : IsRising table
  pub only : All (λ e. IsDirOfHeight w e.dir) table
  pub all : (d : Dir) → IsDirOfHeight w d → Any (λ e. e.dir ≡ d) table

-- in units of 2^−bits, the sine of the entry's direction at (x, y) is from the entry's number to 256 more, from some n on
abbrev pub IsLowAt : ℕ → ℚ → ℚ → SineLow → Type 0
IsLowAt bits x y e = FromSomeOn (λ n. Encloses bits (record { lo = e.low; hi = e.low +ℤ pos 256 }) (sine_of_turn n (turn_of e.dir x y)))

-- ---- numbers

-- the number of the table's entry for a direction, 0 where there is none
abbrev pub low_in : List SineLow → Dir → ℤ
low_in [] d = pos 0
low_in (e ∷ es) d = if is_same_dir e.dir d then e.low else low_in es d

-- the number of a form: the sum over its terms of the coefficient times the table's number of the direction
abbrev pub number_in : List SineLow → FormalPoint → ℤ
number_in table f = weigh_ints (low_in table) f

-- the number less 256 for each unit of the form's weight, and the number and as much
abbrev pub bounds_in : List SineLow → FormalPoint → Ends
bounds_in table f = record { lo = number_in table f -ℤ pos (256 * weight f); hi = number_in table f +ℤ pos (256 * weight f) }

-- ---- tests

-- the drift of a function on a box, where pi is at most `pi` units: pi·reach times half the side, rounded up
abbrev pub box_drift : ℤ → Square → FormalPoint → ℤ
box_drift pi box f = rounded_up (pi *ℤ pos (reach f)) (pos (2 ^ (box.level + 1)))

-- and at a point
abbrev pub no_drift : FormalPoint → ℤ
no_drift f = pos 0

-- the lower end of a function's bounds is at least the drift and the slack 2^−low for each unit of the function's weight and one more
abbrev pub LowerEndReaches : ℕ → ℕ → (FormalPoint → ℤ) → List SineLow → FormalPoint → Type 0
LowerEndReaches bits low drift table f = (drift f +ℤ margin_units bits low (weight f)) ≤ℤ (bounds_in table f).lo

-- the upper end is at most minus both
abbrev pub UpperEndFalls : ℕ → ℕ → (FormalPoint → ℤ) → List SineLow → FormalPoint → Type 0
UpperEndFalls bits low drift table f = (bounds_in table f).hi ≤ℤ neg_ℤ (drift f +ℤ margin_units bits low (weight f))

-- the lower end is at least a threshold of the function's own
abbrev pub LowerEndIsAtLeast : (FormalPoint → ℤ) → List SineLow → FormalPoint → Type 0
LowerEndIsAtLeast threshold table f = threshold f ≤ℤ (bounds_in table f).lo

-- ---- points

-- the centre of a box, as it is written
abbrev pub centre_of : Square → Written × Written
centre_of box = (record { num = pos (2 * box.i + 1); den = 2 ^ (box.level + 1) }, record { num = pos (2 * box.j + 1); den = 2 ^ (box.level + 1) })
