-- The quadtree of a covering file, and the text of the file.
-- Source: Raphael Finkel and Jon Bentley, Quad Trees: A Data Structure for Retrieval on Composite Keys, Acta Informatica 4 (1974). The leaves and the
-- text are this program's own.
use Rattle.std.specs.Prelude.{◌≡◌, ℕ, ◌⊎◌, List, [], ◌∷◌, ◌++◌, count_by}
use Rattle.rational_polygon.specs.Square.{Square, child}
use Rattle.covering_file.specs.declared.file_kind.FileKind.TheVariants.{Cover}
use Rattle.covering_file.specs.declared.node.Node.{Node}
use Rattle.covering_file.specs.declared.node.Node.TheVariants.{Split}
use Rattle.line_grammar.specs.Text.{with_newline}
use Rattle.covering_file.specs.Header.{Heading, header_text}
use Rattle.covering_file.specs.Node.{IsLeaf, is_uncovered, node_line, end_line}

-- a leaf, or a split into the trees of the four children, in their order
pub data Tree : Type 0 where
  leaf : (node : Node) → IsLeaf node → Tree
  split : Tree → Tree → Tree → Tree → Tree

-- a tree's own node, and then those of the trees below it
abbrev pub preorder : Tree → List Node
preorder (leaf node is) = node ∷ []
preorder (split a b c d) = Split ∷ preorder a ++ preorder b ++ preorder c ++ preorder d

-- In the tree of `root` the node stands at this box.
abbrev pub StandsAt : Square → Tree → Square → Node → Type 0
StandsAt root (leaf n is) box node = (box ≡ root) × (node ≡ n)
StandsAt root (split a b c d) box node =
    ((box ≡ root) × (node ≡ Split))
    ⊎ StandsAt (child root 0) a box node
    ⊎ StandsAt (child root 1) b box node
    ⊎ StandsAt (child root 2) c box node
    ⊎ StandsAt (child root 3) d box node

-- its own line, and then, for a split, the four texts
abbrev pub tree_text : Tree → List ℕ
tree_text (leaf node is) = with_newline (node_line node)
tree_text (split a b c d) = with_newline (node_line Split) ++ tree_text a ++ tree_text b ++ tree_text c ++ tree_text d

-- how many of its leaves are uncovered
abbrev pub uncovered_in : Tree → ℕ
uncovered_in t = count_by is_uncovered (preorder t)

-- a header, the tree, and the end line with the number of uncovered leaves
abbrev pub file_text : Heading → Tree → List ℕ
file_text h t = header_text Cover h ++ tree_text t ++ with_newline (end_line (uncovered_in t))
