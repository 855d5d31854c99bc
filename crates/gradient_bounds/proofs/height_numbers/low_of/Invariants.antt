use Rattle.std.proofs.Common.{◌≡◌, drop}
use Rattle.gradient_bounds.specs.Table.{low_in}
use Rattle.gradient_bounds.proofs.height_numbers.low_of.Given as goal

-- what is left of the table has the same number for the direction
abbrev pub invariant-loop-entry : goal.invariant-loop-entry
invariant-loop-entry l = low_in (drop l.entry-index l.table) l.dir ≡ low_in l.table l.dir
