-- The nodes of a tree, their lines, and the end line.
use Rattle.std.specs.Prelude.{◌≡◌, ℕ, zero, suc, ◌≤◌, ◌⊎◌, List, decimal, codes, Bool, true, false, ⊤}
use Rattle.covering_file.specs.declared.node.Node.{Node}
use Rattle.covering_file.specs.declared.node.Node.TheVariants.{Split, Outside, Shown, Corner, Uncovered}
use Rattle.line_grammar.specs.Text.{two_fields}
use Rattle.line_grammar.specs.Form.{IsNamed}

-- a node is a split, or else a leaf
abbrev pub IsLeaf : Node → Type 0
IsLeaf Split = ⊥
IsLeaf leaf = ⊤

-- whether it is an uncovered leaf
abbrev pub is_uncovered : Node → Bool
is_uncovered Uncovered = true
is_uncovered node = false

-- the line of a node; i is the number of a listed word
abbrev pub node_line : Node → List ℕ
node_line Split = codes "s"
node_line Outside = codes "o"
node_line (Shown i) = two_fields (codes "w") (decimal i)
node_line (Corner i) = two_fields (codes "q") (decimal i)
node_line Uncovered = codes "u"

-- a node of a file with so many words, of this version: the number of a word counts from 1, and corners are judged in version 3 alone
abbrev pub IsNode : ℕ → ℕ → Node → Type 0
IsNode words version (Shown i) = (1 ≤ i) × (i ≤ words)
IsNode words version (Corner i) = (version ≡ 3) × (1 ≤ i) × (i ≤ words)
IsNode words version node = ⊤

-- the line has the form of a node's, be its number in range or not
abbrev pub NodeHasForm : ℕ → List ℕ → Type 0
NodeHasForm version line =
    (line ≡ codes "s") ⊎ (line ≡ codes "o") ⊎ (line ≡ codes "u") ⊎ IsNamed (codes "w") line ⊎ ((version ≡ 3) × IsNamed (codes "q") line)

-- the line of a node of a file with so many words, of this version
abbrev pub IsNodeLine : ℕ → ℕ → List ℕ → Type 0
IsNodeLine words version line = (node : Node) × IsNode words version node × (line ≡ node_line node)

-- the end line of a tree with so many uncovered leaves
abbrev pub end_line : ℕ → List ℕ
end_line zero = codes "end complete"
end_line (suc more) = two_fields (codes "end open") (decimal (suc more))
