use Rattle.std.proofs.Common.{sym, subst, inl, inr, below_more, arith}
use Rattle.rational_polygon.specs.Outline.{Outline, IsConvexAt}
use Rattle.rational_polygon.proofs.finding.first_turn.Goals as goal

pub returns-in-Some : goal.returns-in-Some
returns-in-Some c =
    let found = c.in-Some.ensures in
    let outline : Outline = record { grid = c.args.grid; corners = c.args.corners.now } in
    record {
      edge = record { at_least = c.loop-i.auto.i; at_most = c.loop-i-test.true };
      corner = found.0;
      turned = found.1;
      earlier = λ k l edge corner before. elim before [
        | inl lt ↦ c.loop-i.invariant k lt edge l corner
        | inr h ↦ subst (λ t. IsConvexAt outline t l)
            (sym h.0) (found.2 l corner h.1)
      ];
    }

pub loop-i-preserved : goal.loop-i-preserved
loop-i-preserved c = below_more _ _ c.loop-i.invariant (λ _. c.in_default.ensures)

pub returns-in_default : goal.returns-in_default
returns-in_default c = λ i j edge corner. below_more _ _ c.loop-i.invariant (λ _. c.in_default.ensures) i (omega arith) edge j corner
