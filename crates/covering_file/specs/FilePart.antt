-- A covering file, part by part: a header, a node for each box that is due, the end line, and nothing more.
use Rattle.std.specs.Prelude.{◌≡◌, ℕ, ◌<◌, ◌≤◌, List, [], ◌∷◌, ◌++◌, map, length, count_by, is_some, decimal}
use Rattle.rational_polygon.specs.Square.{Square, unit_square}
use Rattle.line_grammar.specs.declared.reason.Reason.{Reason}
use Rattle.line_grammar.specs.declared.reason.Reason.TheVariants.{OtherLine, Number, EndLine, TooMany}
use Rattle.line_grammar.specs.Form.{LineForm, whole_line}
use Rattle.line_grammar.specs.Offence.{Grammar}
use Rattle.line_grammar.specs.Text.{HasNoSpace}
use Rattle.line_grammar.specs.Part.{Part, one_line, line_part, followed_by, in_turn, seen_as, whole_text}
use Rattle.covering_file.specs.declared.file_kind.FileKind.TheVariants.{Cover}
use Rattle.covering_file.specs.declared.node.Node.{Node}
use Rattle.covering_file.specs.DueBoxes.{due_boxes, first_of}
use Rattle.covering_file.specs.Header.{Heading, header_lines}
use Rattle.covering_file.specs.HeaderPart.{header_part}
use Rattle.covering_file.specs.Node.{is_uncovered, node_line, end_line, IsNode, NodeHasForm, IsNodeLine}

-- why a line is not that of a node, in a file with so many words, of this version
abbrev pub RefusesNode : ℕ → ℕ → List ℕ → Reason → Type 0
RefusesNode words version line OtherLine = ¬ (NodeHasForm version line)
RefusesNode words version line Number = NodeHasForm version line × ¬ (IsNodeLine words version line)
RefusesNode words version line reason = ⊥

-- why a last field is not the number of a word, of so many
abbrev pub RefusesWordNumber : ℕ → List ℕ → Reason → Type 0
RefusesWordNumber words field OtherLine = ¬ (HasNoSpace field)
RefusesWordNumber words field Number = HasNoSpace field × ¬ ((i : ℕ) × (1 ≤ i) × (i ≤ words) × (field ≡ decimal i))
RefusesWordNumber words field reason = ⊥

abbrev pub node_form : ℕ → ℕ → LineForm Node
node_form words version = record { line_of = node_line; Says = IsNode words version; Refuses = RefusesNode words version }

-- What is claimed of a node at a box, in a file with this heading: when it may stand there, and which reasons it can have
-- and can lack there. A tree can be read with no claim.
pub record Claims : Type 1 where
  pub MayStand : Heading → Square → Node → Type 0
  pub Has : Heading → Square → Node → Reason → Type 0
  pub Lacks : Heading → Square → Node → Reason → Type 0

-- ---- one node

-- the first due box, and the unit square where none is due
abbrev pub first_box : List Square → Square
first_box [] = unit_square
first_box (box ∷ others) = box

-- The line after these nodes can have a reason: that of its form, that of a claim, or that there are enough nodes.
abbrev pub NodeHas : Claims → ℕ → Heading → List Node → List ℕ → Reason → Type 0
NodeHas claims limit h nodes line OtherLine = RefusesNode (length h.words) h.version line OtherLine
NodeHas claims limit h nodes line Number = RefusesNode (length h.words) h.version line Number
NodeHas claims limit h nodes line TooMany = limit ≤ length nodes
NodeHas claims limit h nodes line reason =
    (n : Node) × IsNode (length h.words) h.version n × (line ≡ node_line n) × claims.Has h (first_box (due_boxes nodes)) n reason

-- and can lack it
abbrev pub NodeLacks : Claims → ℕ → Heading → List Node → List ℕ → Reason → Type 0
NodeLacks claims limit h nodes line OtherLine = ¬ (RefusesNode (length h.words) h.version line OtherLine)
NodeLacks claims limit h nodes line Number = ¬ (RefusesNode (length h.words) h.version line Number)
NodeLacks claims limit h nodes line TooMany = ¬ (limit ≤ length nodes)
NodeLacks claims limit h nodes line reason =
    (n : Node) → IsNode (length h.words) h.version n → line ≡ node_line n → claims.Lacks h (first_box (due_boxes nodes)) n reason

-- a node that may stand after these: it is one of the file, within the limit, and may stand at its box
pub record IsNodeAfter (claims : Claims) (limit : ℕ) (h : Heading) (nodes : List Node) (n : Node) : Type 0 where
  pub node : IsNode (length h.words) h.version n
  pub within : length nodes < limit
  pub stands : claims.MayStand h (first_box (due_boxes nodes)) n

-- one node after these
abbrev pub node_part : Claims → ℕ → Heading → List Node → Part Node
node_part claims limit h nodes = record {
  grammar = one_line (NodeHas claims limit h nodes) (NodeLacks claims limit h nodes);
  Says = IsNodeAfter claims limit h nodes;
  lines_of = λ n. node_line n ∷ [];
}

-- ---- all nodes

-- as long as a box is due, a node
abbrev pub nodes_part : Claims → ℕ → Heading → Part (List Node)
nodes_part claims limit h = in_turn (λ nodes. is_some (first_of (due_boxes nodes))) (node_part claims limit h)

-- the end line that is due after these nodes
abbrev pub due_end : List Node → List ℕ
due_end nodes = end_line (count_by is_uncovered nodes)

-- ---- the file

-- the lines of a file with these nodes
abbrev pub tree_lines : List Node → List (List ℕ)
tree_lines nodes = map node_line nodes ++ due_end nodes ∷ []

abbrev pub file_lines : Heading → List Node → List (List ℕ)
file_lines h nodes = header_lines Cover h ++ tree_lines nodes

-- the nodes, and then the end line for them
abbrev pub tree_part : Claims → ℕ → Heading → Part (List Node)
tree_part claims limit h =
    seen_as (followed_by (nodes_part claims limit h) (λ nodes. line_part (whole_line (due_end nodes) EndLine)))
    (nodes_part claims limit h).Says tree_lines

-- a header and then its tree, whatever follows
abbrev pub file_part : Claims → ℕ → Part (Heading × List Node)
file_part claims limit = followed_by (header_part Cover) (tree_part claims limit)

-- a header, and then its tree to the end of the text
abbrev pub whole_file : Claims → ℕ → Part (Heading × List Node)
whole_file claims limit = followed_by (header_part Cover) (λ h. whole_text (tree_part claims limit h))

-- which line of a file is due, and which reasons it can have
abbrev pub file_grammar : Claims → ℕ → Grammar
file_grammar claims limit = (whole_file claims limit).grammar
