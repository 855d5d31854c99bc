use Rattle.std.proofs.Common.{refl, ◌≤◌, arith}
use Rattle.rational_polygon.specs.Square.{unit_square}
use Rattle.covering_file.specs.declared.node.Node.TheVariants.{Shown}
use Rattle.covering_file.specs.Tree.{Tree, leaf, split}
use Rattle.cover_merge.proofs.Heights.{splits_above}
use Rattle.cover_merge.proofs.tests.keeps_four_shown_leaves.Goals as goal

pub fold-requires-clause-tree : goal.fold-requires-clause-tree
fold-requires-clause-tree g c =
    let shown : Tree = leaf (Shown 1) tt in
    let tree : Tree = split shown shown shown shown in
    (tree, refl, splits_above 20 tree unit_square (omega arith))
