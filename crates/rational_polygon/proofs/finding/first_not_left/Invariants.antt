use Rattle.std.proofs.Common.{ℕ, ◌<◌}
use Rattle.rational_polygon.specs.Outline.{Outline, IsNumber, IsConvexAt}
use Rattle.rational_polygon.proofs.finding.first_not_left.Given as goal

abbrev pub invariant-loop-j : goal.invariant-loop-j
invariant-loop-j l =
    let outline : Outline = record { grid = l.grid; corners = l.corners } in
    (m : ℕ) → m < l.j → IsNumber outline m → IsConvexAt outline l.i m
