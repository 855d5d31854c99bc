use Rattle.std.proofs.Common.{refl, ◌≤◌, arith}
use Rattle.rational_polygon.specs.Square.{unit_square}
use Rattle.covering_file.specs.declared.node.Node.TheVariants.{Outside, Shown}
use Rattle.covering_file.specs.Tree.{Tree, leaf, split}
use Rattle.cover_merge.proofs.Heights.{splits_above}
use Rattle.cover_merge.proofs.tests.folds_four_shown_leaves.Goals as goal

pub fold-requires-clause-tree : goal.fold-requires-clause-tree
fold-requires-clause-tree g c =
    let out : Tree = leaf Outside tt in
    let shown : Tree = leaf (Shown 1) tt in
    let tree : Tree = split (split out out out (split (split out out out (split shown shown shown shown)) out out out)) out out out in
    (tree, refl, splits_above 20 tree unit_square (omega arith))
