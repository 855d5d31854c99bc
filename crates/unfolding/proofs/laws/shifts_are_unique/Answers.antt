use Rattle.unfolding.proofs.Shifts.{same_shift}
use Rattle.unfolding.proofs.laws.shifts_are_unique.Goals as goal

pub returns : goal.returns
returns c = same_shift
