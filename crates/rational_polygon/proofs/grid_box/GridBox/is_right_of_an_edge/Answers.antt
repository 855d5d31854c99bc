use Rattle.std.proofs.Common.{◌≡◌, true, ap, length, below_more, arith}
use Rattle.rational_polygon.proofs.grid_box.GridBox.is_right_of_an_edge.Goals as goal

pub loop-k-preserved : goal.loop-k-preserved
loop-k-preserved c = below_more _ _ c.loop-k.invariant (λ _ h. let e : c.is_right_of.result ≡ true = c.is_right_of.ensures.1 h in cc)

pub returns-else-is_right_of : goal.returns-else-is_right_of
returns-else-is_right_of c = (
  λ h. absurd (cc),
  λ found. absurd (below_more _ _ c.loop-k.invariant (λ _ h. let e : c.is_right_of.result ≡ true = c.is_right_of.ensures.1 h in cc)
      found.0 (omega (arith, found.1.at_most, ap length c.corners.ensures.all)) found.1 found.2),
)
