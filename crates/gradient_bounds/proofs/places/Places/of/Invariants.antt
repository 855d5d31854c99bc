use Rattle.std.proofs.Common.{slice_index_or}
use Rattle.exp_sums.specs.FormalPoint.{FormalPoint, terms}
use Rattle.defining_functions.specs.Tables.{IsTable}
use Rattle.gradient_bounds.specs.HeightSums.{IsRowOf, dirs_of}
use Rattle.gradient_bounds.proofs.places.Places.of.Given as goal

-- the rows of the forms so far
abbrev pub invariant-loop-form : goal.invariant-loop-form
invariant-loop-form l =
    IsTable (λ i row. (f : FormalPoint) → IsRowOf (dirs_of l.table) (terms (slice_index_or l.forms i f)) row.items) l.form-index l.rows.items
