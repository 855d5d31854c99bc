use Rattle.std.proofs.Common.{arith}
use Rattle.svg_pictures.proofs.BouncePoints.{first_drawn}
use Rattle.svg_pictures.proofs.first_triangle.first_triangle.Goals as goal

pub picture_at-requires : goal.picture_at-requires
picture_at-requires c = record { x = omega (arith, c.unit.ensures.size.x); y = omega (arith, c.unit.ensures.size.y) }

pub picture_at-requires-2 : goal.picture_at-requires-2
picture_at-requires-2 c = record { x = omega (arith, c.unit-2.ensures.size.x); y = omega (arith, c.unit-2.ensures.size.y) }

pub picture_at-requires-3 : goal.picture_at-requires-3
picture_at-requires-3 c = record { x = omega (arith, c.unit-3.ensures.size.x); y = omega (arith, c.unit-3.ensures.size.y) }

pub returns : goal.returns
returns c =
    first_drawn c.args.plane.now c.unit.result c.unit-2.result c.unit-3.result c.picture_at.result c.picture_at-2.result c.picture_at-3.result
    c.picture_at.ensures c.picture_at-2.ensures c.picture_at-3.ensures c.unit.ensures.spot c.unit-2.ensures.spot c.unit-3.ensures.spot
