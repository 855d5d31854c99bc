-- The whole tree is the part from the first node on.
use Rattle.std.proofs.Common.{rules, ◌≡◌, sym, ap, ◌∙◌, subst, ◌++◌, List}
use Rattle.rational_polygon.specs.Square.{Square, unit_square}
use Rattle.covering_file.specs.declared.node.Node.{Node}
use Rattle.covering_file.specs.Tree.{preorder}
use Rattle.cover_merge.specs.Fold.{IsFold}
use Rattle.cover_merge.proofs.Folded.{whole_stands}
use Rattle.cover_merge.proofs.folding.fold.Goals as goal

pub returns-clause-folded : goal.returns-clause-folded
returns-clause-folded c o is =
    let part = c.in_ok-fold_part.ensures.folded o (whole_stands c.args.nodes.now o is) in
    let root : c.default.result ≡ unit_square = search rules in (
      part.tree,
      subst (λ (b : Square). IsFold c.args.tests.now b o part.tree) root part.fold,
      sym (part.nodes ∙ ap (λ (ns : List Node). ns ++ preorder part.tree) c.new-folded.ensures.items),
    )
