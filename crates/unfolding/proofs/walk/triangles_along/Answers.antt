use Rattle.std.proofs.Common.{◌+◌, sym, subst, ◌∙◌, arith}
use Rattle.unfolding.specs.Kept.{IsSmall, AreTrianglesOf}
use Rattle.unfolding.proofs.KeptTriangles.{small_triangle, across_is, triangles-snoc}
use Rattle.unfolding.proofs.walk.triangles_along.Goals as goal

pub across-requires-clause-small : goal.across-requires-clause-small
across-requires-clause-small c =
    subst IsSmall (sym (c.index.ensures ∙ c.loop-k.invariant.each c.loop-k.k _ (omega arith)))
    (small_triangle c.args.letters.now c.loop-k.k c.requires (omega arith))

pub loop-k-preserved : goal.loop-k-preserved
loop-k-preserved c =
    subst (AreTrianglesOf c.args.letters.now (c.loop-k.k + 1)) (sym c.in_ok-push-2.ensures.items)
    (triangles-snoc c.args.letters.now c.loop-k.k _ c.in_ok-next.next c.loop-k.invariant
    (across_is c.args.letters.now c.loop-k.k c.in_ok-next.next (omega arith)
    (c.in_ok-next.ensures _ (c.index.ensures ∙ c.loop-k.invariant.each c.loop-k.k _ (omega arith)))))
