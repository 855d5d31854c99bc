use Rattle.std.proofs.Common.{◌≡◌, map, take}
use Rattle.gradient_bounds.proofs.Marks.{blank_for}
use Rattle.gradient_bounds.proofs.directions.blank_table.Given as goal

-- an entry for each term so far
abbrev pub invariant-loop-term : goal.invariant-loop-term
invariant-loop-term l = l.table.items ≡ map blank_for (take l.term-index l.term-items)
