use Rattle.std.proofs.Common.{◌≡◌, ◌-◌, length}
use Rattle.covering_file.specs.Tree.{Tree, preorder}
use Rattle.cover_merge.specs.Overlay.{overlay}
use Rattle.cover_merge.specs.Pairs.{PairsAhead}
use Rattle.cover_merge.proofs.overlaying.overlay.Given as goal

-- whatever trees these are, pairs of theirs are still to be laid over each other
abbrev pub invariant-loop-at : goal.invariant-loop-at
invariant-loop-at l =
    (s t : Tree) → preorder s ≡ l.first → preorder t ≡ l.second → PairsAhead l.first l.second l.at l.nodes.items (preorder (overlay s t))

abbrev pub decreases-loop-at : goal.decreases-loop-at
decreases-loop-at l = length l.first - l.at.first
