use Rattle.plane_points.proofs.Crossing.{spots_cross_lem}
use Rattle.plane_points.proofs.laws.spots_cross.Goals as goal

pub returns : goal.returns
returns c = spots_cross_lem
