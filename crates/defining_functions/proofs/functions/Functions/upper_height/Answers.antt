use Rattle.std.proofs.Common.{subst}
use Rattle.unfolding.specs.Shift.{HasShift}
use Rattle.defining_functions.proofs.functions.Functions.upper_height.Goals as goal

pub returns-clause-shift : goal.returns-clause-shift
returns-clause-shift c = subst HasShift c.self.view_is c.self.invariant.shift
