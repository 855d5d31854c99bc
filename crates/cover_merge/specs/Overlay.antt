-- Two quadtrees over one box, laid over each other.
-- Source: Gregory Hunter and Kenneth Steiglitz, Operations on Images Using Quad Trees, IEEE Transactions on Pattern Analysis and Machine Intelligence 1
-- (1979); Hanan Samet, The Quadtree and Related Hierarchical Data Structures, Computing Surveys 16 (1984). Both have the union of two quadtrees: here
-- the white leaves are the uncovered ones, and a black leaf says why it is covered.
use Rattle.covering_file.specs.declared.node.Node.TheVariants.{Uncovered}
use Rattle.covering_file.specs.Tree.{Tree, leaf, split}

-- An uncovered leaf gives way to the other tree, and any other leaf stands, the first tree's before the second's. Two splits are laid over each other
-- part by part.
abbrev pub overlay : Tree → Tree → Tree
overlay (leaf Uncovered is) t = t
overlay (leaf n is) t = leaf n is
overlay (split a b c d) (leaf Uncovered is) = split a b c d
overlay (split a b c d) (leaf n is) = leaf n is
overlay (split a b c d) (split e f g h) = split (overlay a e) (overlay b f) (overlay c g) (overlay d h)
