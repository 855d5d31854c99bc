use Rattle.std.proofs.Common.{arith}
use Rattle.svg_pictures.proofs.Boxes.{far_side_within}
use Rattle.svg_pictures.proofs.leaf_square.top.Goals as goal

pub overflow_mul-result : goal.overflow_mul-result
overflow_mul-result c =
    let box = c.place.inside in
    let far = far_side_within box.j box.level c.side_at.result c.place.invariant.depth c.place.invariant.row c.side_at.ensures in
    omega (arith, far)

pub overflow_sub-result : goal.overflow_sub-result
overflow_sub-result c =
    let box = c.place.inside in
    far_side_within box.j box.level c.side_at.result c.place.invariant.depth c.place.invariant.row c.side_at.ensures
