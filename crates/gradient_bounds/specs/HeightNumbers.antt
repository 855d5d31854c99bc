-- The numbers of heights by few forms: each follows from that of the edge's other end, or of the edge before, by the numbers of two forms.

use Rattle.std.specs.Prelude.{◌≡◌, ℕ, ◌+◌, ◌^◌, ◌≤◌, List, length, slice_index_or, ℤ, ◌+ℤ◌, unsigned_abs}
use Rattle.exp_sums.specs.FormalPoint.{FormalPoint}
use Rattle.unfolding.specs.Shift.{IsShift}
use Rattle.defining_functions.specs.Heights.{upper_height, lower_height}
use Rattle.defining_functions.specs.Tables.{IsTable}
use Rattle.gradient_bounds.specs.declared.end_numbers.EndNumbers.{EndNumbers}
use Rattle.gradient_bounds.specs.declared.sine_low.SineLow.{SineLow}
use Rattle.gradient_bounds.specs.Kept.{IsNumberOf}
use Rattle.gradient_bounds.specs.Table.{number_in}

-- the number of a form
pub record IsFormNumber (table : List SineLow) (f : FormalPoint) (z : ℤ) : Type 0 where
  pub small : unsigned_abs z ≤ 2 ^ 76
  pub is : z ≡ number_in table f

abbrev pub AreFormNumbers : List SineLow → List FormalPoint → List ℤ → Type 0
AreFormNumbers table forms numbers = IsTable (λ i z. (f : FormalPoint) → IsFormNumber table (slice_index_or forms i f) z) (length forms) numbers

-- what the upper height of the edge i + 1 has more than the lower one
pub record IsWayNumber (w : List ℕ) (table : List SineLow) (i : ℕ) (z : ℤ) : Type 0 where
  pub small : unsigned_abs z ≤ 2 ^ 77
  pub is : (v : FormalPoint) → IsShift w v → number_in table (upper_height v w (i + 1)) ≡ number_in table (lower_height v w (i + 1)) +ℤ z

-- the numbers of the two heights of the k-th edge
pub record AreEndNumbers (w : List ℕ) (table : List SineLow) (k : ℕ) (e : EndNumbers) : Type 0 where
  pub upper : IsNumberOf w table (λ v. upper_height v w k) e.upper
  pub lower : IsNumberOf w table (λ v. lower_height v w k) e.lower
