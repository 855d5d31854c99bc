use Rattle.plane_points.proofs.Crossing.{spots_cross_lem}
use Rattle.plane_points.proofs.plane.Plane.spot_pair.Goals as goal

pub returns-clause-cross : goal.returns-clause-cross
returns-clause-cross c = spots_cross_lem c.args.self.now c.args.v.now c.args.d.now
