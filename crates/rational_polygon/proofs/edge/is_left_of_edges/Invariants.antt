use Rattle.std.proofs.Common.{ℕ, ◌<◌}
use Rattle.rat_core.specs.Written.{value}
use Rattle.rational_polygon.specs.Point.{IsOnOrLeft}
use Rattle.rational_polygon.specs.Outline.{Outline, IsNumber, corner, next}
use Rattle.rational_polygon.proofs.edge.is_left_of_edges.Given as goal

abbrev pub invariant-loop-k : goal.invariant-loop-k
invariant-loop-k l =
    let outline : Outline = record { grid = l.grid; corners = l.corners } in
    (m : ℕ) → m < l.k → IsNumber outline m → IsOnOrLeft (corner outline m) (corner outline (next outline m)) (record { x = value l.x; y = value l.y })
