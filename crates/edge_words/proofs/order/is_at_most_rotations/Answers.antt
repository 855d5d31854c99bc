use Rattle.std.proofs.Common.{refl, sym, ◌∙◌, ap, below_more, is_lt, arith}
use Rattle.edge_words.specs.Canonical.{rotated}
use Rattle.edge_words.proofs.Lexicographic.{at_most_where_not_less, not_at_most_where_less}
use Rattle.edge_words.proofs.order.is_at_most_rotations.Goals as goal

pub returns-then-is_lt : goal.returns-then-is_lt
returns-then-is_lt c =
    let turned = rotated c.loop-by.by c.args.letters.now in
    let less = ap is_lt (sym c.compare_rotated.ensures) ∙ sym c.is_lt.ensures ∙ c.if-is_lt.true in
    (λ same. cc, λ all. absurd (not_at_most_where_less c.args.others.now turned less (all c.loop-by.by (omega arith))))

pub loop-by-preserved : goal.loop-by-preserved
loop-by-preserved c =
    let turned = rotated c.loop-by.by c.args.letters.now in
    let not_less = ap is_lt (sym c.compare_rotated.ensures) ∙ sym c.is_lt.ensures ∙ c.if-is_lt.false in
    below_more _ _ c.loop-by.invariant (at_most_where_not_less c.args.others.now turned not_less)

pub returns : goal.returns
returns c = (λ same by below. c.loop-by.invariant by (omega arith), λ all. refl)
