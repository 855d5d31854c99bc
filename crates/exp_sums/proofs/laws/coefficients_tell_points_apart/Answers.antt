use Rattle.exp_sums.proofs.SamePoint.{same_point}
use Rattle.exp_sums.proofs.laws.coefficients_tell_points_apart.Goals as goal

pub returns : goal.returns
returns c = same_point
