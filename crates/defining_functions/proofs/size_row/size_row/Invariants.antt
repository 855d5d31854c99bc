use Rattle.std.proofs.Common.{◌≡◌, slice_index_or}
use Rattle.std.specs.List.{All}
use Rattle.exp_sums.specs.FormalPoint.{FormalPoint, ◌-ₚ◌}
use Rattle.defining_functions.specs.Sizes.{sizes_of, AreAtMost, AreSmall}
use Rattle.defining_functions.specs.Tables.{IsTable}
use Rattle.defining_functions.proofs.size_row.size_row.Given as goal

abbrev pub invariant-loop-lower : goal.invariant-loop-lower
invariant-loop-lower l = record {
  each : IsTable (λ j sizes. (q : FormalPoint) → sizes ≡ sizes_of (l.upper -ₚ slice_index_or l.lowers j q)) l.lower-index l.sizes.items;
  greatest : All (λ s. AreAtMost s l.greatest) l.sizes.items;
  small : AreSmall l.greatest;
  least : All (λ s. AreAtMost l.least s) l.sizes.items;
  least_small : AreSmall l.least;
}
