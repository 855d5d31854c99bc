use Rattle.std.proofs.Common.{ℕ, ◌<◌}
use Rattle.rational_polygon.specs.Outline.{Outline, IsNumber}
use Rattle.rational_polygon.specs.Fault.{IsInsideAt}
use Rattle.rational_polygon.proofs.finding.first_outside.Given as goal

abbrev pub invariant-loop-k : goal.invariant-loop-k
invariant-loop-k l =
    let outline : Outline = record { grid = l.grid; corners = l.corners } in
    (m : ℕ) → m < l.k → IsNumber outline m → IsInsideAt outline m
