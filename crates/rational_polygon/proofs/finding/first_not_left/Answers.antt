use Rattle.std.proofs.Common.{◌≡◌, true, below_more, arith}
use Rattle.rational_polygon.proofs.finding.first_not_left.Goals as goal

pub loop-j-preserved : goal.loop-j-preserved
loop-j-preserved c = below_more _ _ c.loop-j.invariant (λ _. c.is_convex_at.ensures.0 c.if-not-is_convex_at.false)

pub returns-then-not-is_convex_at : goal.returns-then-not-is_convex_at
returns-then-not-is_convex_at c = (
  record { at_least = c.loop-j.auto.j; at_most = c.loop-j-test.true },
  λ h. let e : c.is_convex_at.result ≡ true = c.is_convex_at.ensures.1 h in cc,
  λ l number lt. c.loop-j.invariant l lt number,
)

pub returns-else-not-is_convex_at : goal.returns-else-not-is_convex_at
returns-else-not-is_convex_at c =
    λ j number. below_more _ _ c.loop-j.invariant (λ _. c.is_convex_at.ensures.0 c.if-not-is_convex_at.false) j (omega arith) number
