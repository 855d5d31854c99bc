use Rattle.std.proofs.Common.{slice_index_or}
use Rattle.std.specs.List.{All}
use Rattle.exp_sums.specs.FormalPoint.{FormalPoint}
use Rattle.defining_functions.specs.declared.size_row.SizeRow.{SizeRow}
use Rattle.defining_functions.specs.Kept.{IsSizeRow}
use Rattle.defining_functions.specs.Sizes.{AreAtMost, AreSmall}
use Rattle.defining_functions.specs.Tables.{IsTable}
use Rattle.defining_functions.proofs.size_table.size_table.Given as goal

abbrev pub invariant-loop-upper : goal.invariant-loop-upper
invariant-loop-upper l = record {
  each : IsTable (λ i row. (p : FormalPoint) → IsSizeRow (slice_index_or l.uppers i p) l.lowers row) l.upper-index l.rows.items;
  greatest : All (λ (row : SizeRow). AreAtMost row.greatest l.greatest) l.rows.items;
  small : AreSmall l.greatest;
}
