use Rattle.std.proofs.Common.{ℕ, ◌<◌}
use Rattle.rational_polygon.specs.Outline.{Outline, IsNumber, IsConvexAt}
use Rattle.rational_polygon.proofs.finding.first_turn.Given as goal

abbrev pub invariant-loop-i : goal.invariant-loop-i
invariant-loop-i l =
    let outline : Outline = record { grid = l.grid; corners = l.corners } in
    (k : ℕ) → k < l.i → IsNumber outline k → (m : ℕ) → IsNumber outline m → IsConvexAt outline k m
