use Rattle.rational_polygon.proofs.Sides.{below_by_test}
use Rattle.rational_polygon.proofs.grid_box.GridBox.has_corner_right_of.Goals as goal

pub returns : goal.returns
returns c =
    below_by_test _ _ _ _ c.is_lt.ensures (rw
    (c.grid.ensures.value, c.corners.ensures.all, c.corner-x.ensures.x, c.corner-x.ensures.y) at c.side_of_edge.ensures)
