use Rattle.std.proofs.Common.{ℕ, ℤ, ◌<◌, get_or, slice_index_or}
use Rattle.exp_sums.specs.FormalPoint.{FormalPoint}
use Rattle.gradient_bounds.specs.HeightNumbers.{IsFormNumber}
use Rattle.gradient_bounds.proofs.height_numbers.number_forms.Given as goal

-- the numbers so far
abbrev pub invariant-loop-i : goal.invariant-loop-i
invariant-loop-i l = (j : ℕ) (z : ℤ) → j < l.i → (f : FormalPoint) → IsFormNumber l.table (slice_index_or l.forms j f) (get_or l.numbers j z)
