use Rattle.std.proofs.Common.{ℕ, ◌<◌}
use Rattle.rational_polygon.specs.Outline.{IsNumber}
use Rattle.rational_polygon.specs.Apart.{IsRightOf}
use Rattle.rational_polygon.proofs.grid_box.GridBox.is_right_of_an_edge.Given as goal

abbrev pub invariant-loop-k : goal.invariant-loop-k
invariant-loop-k l = (m : ℕ) → m < l.k → IsNumber l.polygon m → ¬ IsRightOf l.self l.polygon m
