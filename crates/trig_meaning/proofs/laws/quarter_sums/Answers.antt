use Rattle.trig_meaning.proofs.QuarterSums.{quarter_sums_lem}
use Rattle.trig_meaning.proofs.laws.quarter_sums.Goals as goal

pub returns : goal.returns
returns c = quarter_sums_lem
