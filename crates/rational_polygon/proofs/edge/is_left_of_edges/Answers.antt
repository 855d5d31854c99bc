use Rattle.std.proofs.Common.{refl, below_more, arith}
use Rattle.rational_polygon.proofs.Sides.{at_least_by_test}
use Rattle.rational_polygon.proofs.edge.is_left_of_edges.Goals as goal

pub loop-k-preserved : goal.loop-k-preserved
loop-k-preserved c =
    below_more _ _ c.loop-k.invariant (λ _. at_least_by_test _ _ _ _ c.if-is_lt.false c.is_lt.ensures c.side_of_edge.ensures)

pub returns-else-is_lt : goal.returns-else-is_lt
returns-else-is_lt c = (
  λ _ m number. below_more _ _ c.loop-k.invariant (λ _. at_least_by_test _ _ _ _ c.if-is_lt.false c.is_lt.ensures c.side_of_edge.ensures) m
      (omega arith) number,
  λ _. refl,
)
