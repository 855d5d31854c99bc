use Rattle.std.proofs.Common.{arith}
use Rattle.exp_sums.proofs.Within.{IsWithin-weaker}
use Rattle.svg_pictures.proofs.PicturePoints.{small_spot}
use Rattle.svg_pictures.proofs.coordinates.picture_of.Goals as goal

pub spot-requires : goal.spot-requires
spot-requires c = IsWithin-weaker 65 1000 c.args.z.now (omega arith) c.requires.within

pub picture_at-requires : goal.picture_at-requires
picture_at-requires c = small_spot c.args.plane.now c.args.z.now c.spot.result c.requires.light c.spot.ensures.spot

pub returns : goal.returns
returns c = c.picture_at.ensures c.args.plane.now c.args.z.now c.requires.light c.spot.ensures.spot
