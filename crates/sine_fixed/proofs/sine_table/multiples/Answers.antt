use Rattle.std.proofs.Common.{◌+◌, sym, subst}
use Rattle.sine_fixed.specs.SineTables.{AreMultiples}
use Rattle.sine_fixed.proofs.SineTables.{one_multiple_more}
use Rattle.sine_fixed.proofs.sine_table.multiples.Goals as goal

pub loop-i-preserved : goal.loop-i-preserved
loop-i-preserved c =
    subst (AreMultiples c.args.den (c.loop-i.i + 1)) (sym c.in_ok-push.ensures.items)
    (one_multiple_more c.args.den c.loop-i.i c.loop-i.entries.items c.of.result c.loop-i.invariant c.of.ensures)
