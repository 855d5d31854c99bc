-- Coverings that are begun or whole, their answers and their texts.
use Rattle.std.specs.Prelude.{◌≡◌, ◌≢◌, ℕ, ◌≤◌, ◌⊎◌, List, [], ◌++◌, map, length, count_by}
use Rattle.line_grammar.specs.Text.{text_of}
use Rattle.covering_file.specs.declared.file_kind.FileKind.TheVariants.{Cover}
use Rattle.covering_file.specs.declared.node.Node.{Node}
use Rattle.covering_file.specs.DueBoxes.{due_boxes, AreDue}
use Rattle.covering_file.specs.FilePart.{file_lines}
use Rattle.covering_file.specs.Header.{Heading, header_lines}
use Rattle.covering_file.specs.Node.{is_uncovered, node_line}
use Rattle.coverer.specs.declared.answer.Covered.{Covered}
use Rattle.coverer.specs.declared.answer.Covered.TheVariants.{Complete, OpenBoxes, Full}
use Rattle.coverer.specs.Causes.{StandByCause}

-- the first nodes of a covering, at most `limit`: a box is due before each, and each stands by its cause
pub record IsBegun (limit : ℕ) (h : Heading) (nodes : List Node) : Type 0 where
  pub due : AreDue nodes
  pub within : length nodes ≤ limit
  pub causes : StandByCause h nodes

-- what an answer says of the nodes
abbrev pub Answers : ℕ → List Node → Covered → Type 0
Answers limit nodes (Complete n) = (n ≡ length nodes) × (due_boxes nodes ≡ []) × (count_by is_uncovered nodes ≡ 0)
Answers limit nodes (OpenBoxes n left) = (n ≡ length nodes) × (due_boxes nodes ≡ []) × (left ≡ count_by is_uncovered nodes) × (1 ≤ left)
Answers limit nodes (Full n) = (n ≡ length nodes) × (n ≡ limit) × (due_boxes nodes ≢ [])

-- the header and the nodes
abbrev pub begun_lines : Heading → List Node → List (List ℕ)
begun_lines h nodes = header_lines Cover h ++ map node_line nodes

-- and after a whole tree its end line
abbrev pub cover_lines : Heading → List Node → Covered → List (List ℕ)
cover_lines h nodes (Complete n) = file_lines h nodes
cover_lines h nodes (OpenBoxes n left) = file_lines h nodes
cover_lines h nodes (Full n) = begun_lines h nodes

-- a covering of a region with an answer, and its text
pub record IsCover (limit : ℕ) (h : Heading) (answer : Covered) (text : List ℕ) : Type 0 where
  pub nodes : List Node
  pub begun : IsBegun limit h nodes
  pub answers : Answers limit nodes answer
  pub is_text : text ≡ text_of (cover_lines h nodes answer)

-- the text of a covering that may go on: the header and the first nodes, or the whole file
pub record IsBegunText (limit : ℕ) (h : Heading) (text : List ℕ) : Type 0 where
  pub nodes : List Node
  pub begun : IsBegun limit h nodes
  pub is_text : (text ≡ text_of (begun_lines h nodes)) ⊎ ((due_boxes nodes ≡ []) × (text ≡ text_of (file_lines h nodes)))
