use Rattle.std.proofs.Common.{sym, subst}
use Rattle.defining_functions.specs.Kept.{AreWithinLimits}
use Rattle.gradient_bounds.proofs.height_sums.HeightSums.of.Goals as goal

pub of-requires : goal.of-requires
of-requires c = subst AreWithinLimits (sym c.deref.ensures.value) c.requires
