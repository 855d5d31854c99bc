use Rattle.std.proofs.Common.{take}
use Rattle.gradient_bounds.specs.HeightSums.{IsRowOf, dirs_of}
use Rattle.gradient_bounds.proofs.places.row_of.Given as goal

-- the row of the terms so far
abbrev pub invariant-loop-term : goal.invariant-loop-term
invariant-loop-term l = IsRowOf (dirs_of l.table) (take l.term-index l.terms) l.row.items
