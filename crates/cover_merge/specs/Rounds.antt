-- Two covering files of one region, one directly after the other, and what is refused in them, in four rounds. All are this program's own.
use Rattle.std.specs.Prelude.{◌≡◌, ◌≢◌, ◌⊎◌, ℕ, ◌+◌, List, [], ◌∷◌, ◌++◌, length}
use Rattle.rational_polygon.specs.Square.{Square, unit_square}
use Rattle.gradient_bounds.specs.Slacks as slacks
use Rattle.line_grammar.specs.declared.reason.Reason.{Reason}
use Rattle.line_grammar.specs.Part.{Part, followed_by, whole_text}
use Rattle.covering_file.specs.declared.TheConstants.{MAX_WORDS}
use Rattle.covering_file.specs.declared.file_kind.FileKind.TheVariants.{Cover}
use Rattle.covering_file.specs.declared.node.Node.{Node}
use Rattle.covering_file.specs.declared.node.Node.TheVariants.{Uncovered}
use Rattle.covering_file.specs.DueBoxes.{due_boxes, StandsIn}
use Rattle.covering_file.specs.FilePart.{first_box}
use Rattle.covering_file.specs.Header.{Heading, first_line, region_lines, header_lines}
use Rattle.covering_file.specs.Sound.{IsSoundNode, ClaimHas}
use Rattle.covering_file.specs.TreeFile.{TreeFile, tree_file_lines, tree_file_part}
use Rattle.cover_merge.specs.Union.{Lists, IsUnion}

-- ---- first round: the two files, to the end of the text

abbrev pub two_files : ℕ → Part (TreeFile × TreeFile)
two_files limit = whole_text (followed_by (tree_file_part limit) (λ _. tree_file_part limit))

-- how many lines a file has, and how many of them stand before its first node
abbrev pub line_count : TreeFile → ℕ
line_count f = length (tree_file_lines f)

abbrev pub lines_before_nodes : Heading → ℕ
lines_before_nodes h = length (header_lines Cover h)

-- ---- second round: one version and one region

-- the lines from the first to the last corner
abbrev pub lines_of_region : Heading → List (List ℕ)
lines_of_region h = first_line Cover h.version ∷ region_lines h.version h.region

-- one version and one region
pub record AreAlike (g h : Heading) : Type 0 where
  pub version : g.version ≡ h.version
  pub region : g.region ≡ h.region

-- after so many lines that are the same, the one text has one line and the other another
pub record DifferAfter (lines others : List (List ℕ)) (count : ℕ) : Type 0 where
  pub same : List (List ℕ)
  pub line : List ℕ
  pub other : List ℕ
  pub lines_after : List (List ℕ)
  pub others_after : List (List ℕ)
  pub lines_are : lines ≡ same ++ line ∷ lines_after
  pub others_are : others ≡ same ++ other ∷ others_after
  pub number : count ≡ length same
  pub differ : line ≢ other

-- this line, counted through both files, is the first of the second file's region that is not the line of the same number in the first file
abbrev pub RefusesRegion : TreeFile → TreeFile → ℕ → Type 0
RefusesRegion f g line = (same : ℕ) × (line ≡ line_count f + same + 1) × DifferAfter (tree_file_lines f) (lines_of_region g.heading) same

-- ---- third round: at most 32 words

-- the union with so many of the others has 32 words, and the next of them is no word of it
pub record IsOneTooMany (words others : List (List ℕ)) (before : ℕ) : Type 0 where
  pub first : List (List ℕ)
  pub word : List ℕ
  pub more : List (List ℕ)
  pub union : List (List ℕ)
  pub others_are : others ≡ first ++ word ∷ more
  pub number : before ≡ length first
  pub is_union : IsUnion words first union
  pub is_full : length union ≡ MAX_WORDS
  pub is_new : ¬ (Lists union word)

-- this line, counted through both files, is that of the second file's word that is one too many: it stands behind the region and a count
abbrev pub RefusesWords : TreeFile → TreeFile → ℕ → Type 0
RefusesWords f g line =
    (before : ℕ) × (line ≡ line_count f + length (lines_of_region g.heading) + before + 2) × IsOneTooMany f.heading.words g.heading.words before

-- ---- fourth round: what is claimed of boxes

-- the claim is true, or the box is left uncovered
abbrev pub IsTrueOrOpen : Heading → Square → Node → Type 0
IsTrueOrOpen h box node = IsSoundNode h slacks.sound box node ⊎ (node ≡ Uncovered)

-- so it is at the box of each of these nodes
abbrev pub AreTrueOrOpen : Heading → List Node → Type 0
AreTrueOrOpen h nodes = (box : Square) (node : Node) → StandsIn (unit_square ∷ []) nodes box node → IsTrueOrOpen h box node

-- after so many nodes whose claims are true, the claim of the next fails, and it has this reason
pub record IsFalseAfter (f : TreeFile) (before : ℕ) (reason : Reason) : Type 0 where
  pub first : List Node
  pub node : Node
  pub more : List Node
  pub nodes_are : f.nodes ≡ first ++ node ∷ more
  pub number : before ≡ length first
  pub true_before : AreTrueOrOpen f.heading first
  pub is_covered : node ≢ Uncovered
  pub claim : ClaimHas f.heading (first_box (due_boxes first)) node reason

-- this line, counted through both files, is the first whose claim fails
abbrev pub RefusesClaim : TreeFile → TreeFile → ℕ → Reason → Type 0
RefusesClaim f g line reason =
    ((before : ℕ) × (line ≡ lines_before_nodes f.heading + before + 1) × IsFalseAfter f before reason)
    ⊎ (AreTrueOrOpen f.heading f.nodes
    × ((before : ℕ) × (line ≡ line_count f + lines_before_nodes g.heading + before + 1) × IsFalseAfter g before reason))
