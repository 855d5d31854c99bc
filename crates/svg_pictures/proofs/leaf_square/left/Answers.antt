use Rattle.std.proofs.Common.{arith}
use Rattle.svg_pictures.proofs.Boxes.{near_side_within}
use Rattle.svg_pictures.proofs.leaf_square.left.Goals as goal

pub overflow_mul-result : goal.overflow_mul-result
overflow_mul-result c =
    let box = c.place.inside in
    let near = near_side_within box.i box.level c.side_at.result c.place.invariant.depth c.place.invariant.column c.side_at.ensures in
    omega (arith, near)
