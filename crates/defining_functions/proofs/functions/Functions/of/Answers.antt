use Rattle.std.proofs.Common.{sym, subst}
use Rattle.unfolding.specs.Shift.{HasShift}
use Rattle.defining_functions.proofs.functions.Functions.of.Goals as goal

pub returns-clause-shift : goal.returns-clause-shift
returns-clause-shift c = subst HasShift (sym c.in_ok-by_steps.ensures) c.in_ok-steps.ensures.shift
