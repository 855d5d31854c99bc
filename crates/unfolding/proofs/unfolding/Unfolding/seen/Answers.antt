use Rattle.std.proofs.Common.{◌≡◌, take, sym, subst, arith}
use Rattle.std.proofs.lemmas.Bool.Decides.{nat_tests}
use Rattle.edge_words.specs.Word.{IsWord}
use Rattle.exp_sums.specs.Limits.{IsNear}
use Rattle.unfolding.specs.Kept.{triangle_of}
use Rattle.unfolding.proofs.Bounds.{seen_near}
use Rattle.unfolding.proofs.KeptTriangles.{kept_triangle, dir-at, seen_is, minus_is}
use Rattle.unfolding.proofs.unfolding.Unfolding.seen.Goals as goal

triangle_is : (c : goal.After-result-1) → c.index-triangle.result.now ≡ triangle_of (take c.args.k c.args.self.now)
triangle_is c = kept_triangle _ c.args.self.now _ c.args.k c.index-triangle.result.now c.self.view_is c.self.invariant c.requires.within
    c.index-triangle.ensures

pub returns-clause-corner : goal.returns-clause-corner
returns-clause-corner c = seen_is c.args.self.now c.args.k c.args.corner c.index-triangle.result.now _ (triangle_is c) c.requires.corner

pub returns-clause-minus : goal.returns-clause-minus
returns-clause-minus c =
    let minus = minus_is c.args.self.now c.args.k c.index-triangle.result.now (triangle_is c) c.requires.within in
    grind (arith, nat_tests)

pub returns-clause-near : goal.returns-clause-near
returns-clause-near c =
    subst (IsNear 65) (sym (dir-at c.args.self.now c.args.k c.args.corner c.index-triangle.result.now _ (triangle_is c) c.requires.corner))
    (seen_near c.args.self.now c.args.k c.args.corner (subst IsWord c.self.view_is c.self.invariant.word) c.requires.within)
