use Rattle.sine_fixed.specs.SineTables.{AreMultiples}
use Rattle.sine_fixed.proofs.sine_table.multiples.Given as goal

-- the multiples so far
abbrev pub invariant-loop-i : goal.invariant-loop-i
invariant-loop-i l = AreMultiples l.den l.i l.entries.items
