use Rattle.covering_file.proofs.Trees.{standing_is_due}
use Rattle.covering_file.proofs.laws.standing_is_due.Goals as goal

pub returns : goal.returns
returns c = standing_is_due
