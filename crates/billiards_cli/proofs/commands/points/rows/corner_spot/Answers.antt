use Rattle.std.proofs.Common.{subst, arith}
use Rattle.exp_sums.specs.FormalPoint.{FormalPoint}
use Rattle.exp_sums.proofs.Within.{IsWithin-weaker}
use Rattle.plane_points.specs.Spots.{IsSpotOf}
use Rattle.billiards_cli.proofs.commands.points.rows.corner_spot.Goals as goal

pub spot-requires : goal.spot-requires
spot-requires c = IsWithin-weaker 65 1000 _ (omega arith) c.corner.ensures.within

pub returns-clause-spot : goal.returns-clause-spot
returns-clause-spot c = record {
  corner = c.requires.corner;
  spot = subst (λ (p : FormalPoint). IsSpotOf c.args.plane.now p c.spot.result) c.corner.ensures.is c.spot.ensures.spot;
}
