-- What a merge says of its region, by the definitions alone.
use Rattle.std.specs.Prelude.{◌≡◌, ◌+◌, ◌≤◌, length, count_by}
use Rattle.rational_polygon.specs.Square.{Square, unit_square}
use Rattle.gradient_bounds.specs.Slacks as slacks
use Rattle.covering_file.specs.declared.node.Node.TheVariants.{Uncovered}
use Rattle.covering_file.specs.Covering.{IsCovered}
use Rattle.covering_file.specs.Header.{IsHeading}
use Rattle.covering_file.specs.Node.{is_uncovered}
use Rattle.covering_file.specs.Sound.{IsSound, IsSure}
use Rattle.covering_file.specs.Tree.{StandsAt}
use Rattle.covering_file.specs.TreeFile.{TreeFile}
use Rattle.cover_merge.specs.Laws.{LiesInUncovered, IsSoundButOpen}
use Rattle.cover_merge.specs.Merge.{IsMerge, AreFit}
use Rattle.cover_merge.specs.Rounds.{AreAlike}

-- a box that a merge leaves uncovered lies in an uncovered box of each file
abbrev pub MergeIsOpenWhereBothAre : Type 0
MergeIsOpenWhereBothAre = (f g r : TreeFile) (m : IsMerge f g r) (box : Square) → StandsAt unit_square m.tree box Uncovered
    → LiesInUncovered unit_square m.first box × LiesInUncovered unit_square m.second box

-- a merge has at most as many nodes as both files
abbrev pub MergeIsSmall : Type 0
MergeIsSmall = (f g r : TreeFile) → IsMerge f g r → length r.nodes ≤ length f.nodes + length g.nodes

-- where no box of a merge of files that no round refuses is left uncovered, its tree is sound
abbrev pub ClosedMergeIsSound : Type 0
ClosedMergeIsSound = (f g r : TreeFile) → AreFit f g → (m : IsMerge f g r) → count_by is_uncovered r.nodes ≡ 0 → IsSound r.heading m.tree

-- a merge of files that no round refuses covers its region where no box is left uncovered
abbrev pub ClosedMergeCovers : Type 0
ClosedMergeCovers = (f g r : TreeFile) → AreFit f g → IsMerge f g r → IsHeading r.heading → count_by is_uncovered r.nodes ≡ 0 → IsCovered r.heading

-- where both files are sure but for uncovered boxes, and no box of the merge is left uncovered, the merge is sure
abbrev pub ClosedMergeIsSure : Type 0
ClosedMergeIsSure = (f g r : TreeFile) (m : IsMerge f g r) → AreAlike f.heading g.heading → IsSoundButOpen slacks.sure f.heading unit_square m.first
    → IsSoundButOpen slacks.sure g.heading unit_square m.second → count_by is_uncovered r.nodes ≡ 0 → IsSure r.heading m.tree
