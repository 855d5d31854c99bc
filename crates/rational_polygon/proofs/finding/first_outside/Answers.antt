use Rattle.std.proofs.Common.{◌≡◌, true, sym, subst, below_more, arith}
use Rattle.rational_polygon.specs.Outline.{IsInside}
use Rattle.rational_polygon.proofs.Numbers.{all_by_number}
use Rattle.rational_polygon.proofs.finding.first_outside.Goals as goal

pub loop-k-preserved : goal.loop-k-preserved
loop-k-preserved c =
    below_more _ _ c.loop-k.invariant (λ _. subst (IsInside c.args.grid) c.corner_at.ensures (c.is_inside.ensures.0 c.if-not-is_inside.false))

pub returns-then-not-is_inside : goal.returns-then-not-is_inside
returns-then-not-is_inside c = record {
  number = record { at_least = c.loop-k.auto.k; at_most = c.loop-k-test.true };
  outside = λ h. let e : c.is_inside.result ≡ true = c.is_inside.ensures.1 (subst (IsInside c.args.grid) (sym c.corner_at.ensures) h) in cc;
  earlier = λ l number lt. c.loop-k.invariant l lt number;
}

pub returns-else-not-is_inside : goal.returns-else-not-is_inside
returns-else-not-is_inside c =
    all_by_number (IsInside c.args.grid) c.args.corners.now (0, 0)
    (λ m low high. below_more _ _ c.loop-k.invariant (λ _. subst (IsInside c.args.grid) c.corner_at.ensures (c.is_inside.ensures.0 c.if-not-is_inside.false))
    m (omega arith) (record { at_least = low; at_most = high }))
