-- What follows from the definitions alone.
use Rattle.std.specs.Prelude.{◌≡◌, ◌⊎◌, ℕ, ◌+◌, ◌^◌, ◌<◌, min, ◌↔◌, List, [], ◌∷◌, ◌++◌, All, map, length, Some}
use Rattle.rational_polygon.specs.Point.{Point}
use Rattle.rational_polygon.specs.Square.{Square, unit_square, IsInBox}
use Rattle.rational_polygon.specs.Region.{IsInRegion}
use Rattle.gradient_bounds.specs.Clear.{IsClear}
use Rattle.gradient_bounds.specs.CornerClear.{IsCornerClear}
use Rattle.gradient_bounds.specs.Corridor.{HasCorridor}
use Rattle.gradient_bounds.specs.Slacks.{Slacks}
use Rattle.gradient_bounds.specs.Slacks as slacks
use Rattle.covering_file.specs.declared.file_kind.FileKind.{FileKind}
use Rattle.covering_file.specs.declared.file_kind.FileKind.TheVariants.{Cover}
use Rattle.covering_file.specs.declared.node.Node.{Node}
use Rattle.covering_file.specs.declared.node.Node.TheVariants.{Shown, Corner}
use Rattle.line_grammar.specs.declared.reason.Reason.{Reason}
use Rattle.line_grammar.specs.Laws.{OffenceIsOne}
use Rattle.line_grammar.specs.Offence.{IsFirstOffence}
use Rattle.line_grammar.specs.Text.{text_of}
use Rattle.covering_file.specs.Header.{Heading, IsHeading, header_lines, header_text, job_text, IsVersion}
use Rattle.covering_file.specs.Faults.{word_at, IsListed}
use Rattle.covering_file.specs.Node.{IsNode, node_line}
use Rattle.covering_file.specs.HeaderPart.{header_part, job_part}
use Rattle.covering_file.specs.Tree.{Tree, preorder, StandsAt, file_text}
use Rattle.covering_file.specs.DueBoxes.{AreWhole, StandsIn, due_boxes, first_of}
use Rattle.covering_file.specs.Sound.{IsSound, IsSure}
use Rattle.covering_file.specs.Covering.{IsCovered, IsCovering}
use Rattle.covering_file.specs.CheckClaims.{check_claims}
use Rattle.covering_file.specs.FilePart.{nodes_part, file_lines}
use Rattle.covering_file.specs.TreeFile.{TreeFile, IsTreeOf, IsTreeFile, tree_file_text, whole_tree_file, upgraded}
use Rattle.covering_file.specs.Verdicts.{IsFileWith, IsAccepted, IsRefused, IsSureFile}

-- bytes that begin with the texts of two headers begin with one
abbrev pub HeaderIsOne : Type 0
HeaderIsOne = (kind other : FileKind) (g h : Heading) (x y : List ℕ) → IsHeading g → IsHeading h → header_text kind g ++ x ≡ header_text other h ++ y
    → (kind ≡ other) × (g ≡ h) × (x ≡ y)

-- no text of a header is a prefix of the text of another header
abbrev pub NoHeaderPrefix : Type 0
NoHeaderPrefix = (kind other : FileKind) (g h : Heading) (rest : List ℕ) → IsHeading g → IsHeading h
    → header_text kind g ++ rest ≡ header_text other h → (kind ≡ other) × (g ≡ h)

-- no line of a header offends, whatever follows it
abbrev pub HeaderNeverOffends : Type 0
HeaderNeverOffends = (kind : FileKind) (h : Heading) (rest : List ℕ) (line : ℕ) (reason : Reason) → IsHeading h
    → ¬ (IsFirstOffence (header_part kind).grammar (header_text kind h ++ rest) line reason)

-- no line of a job offends
abbrev pub JobNeverOffends : Type 0
JobNeverOffends = (h : Heading) (line : ℕ) (reason : Reason) → IsHeading h → ¬ (IsFirstOffence job_part.grammar (job_text h) line reason)

-- ---- trees

-- Nodes are those of a whole tree exactly where a box is due before each and none after all.
abbrev pub WholeIsTree : Type 0
WholeIsTree = (nodes : List Node) → AreWhole nodes ↔ ((t : Tree) × (preorder t ≡ nodes))

-- and of one tree alone
abbrev pub TreeIsOne : Type 0
TreeIsOne = (s t : Tree) → preorder s ≡ preorder t → s ≡ t

-- a node stands in a tree at the box that is the first due one before it in the tree's list
abbrev pub StandingIsDue : Type 0
StandingIsDue = (t : Tree) (box : Square) (node : Node) → StandsAt unit_square t box node ↔ StandsIn (unit_square ∷ []) (preorder t) box node

-- where the tree of a file is sound, each point of the region lies in a box of a leaf that is shown, or shown at its corners
abbrev pub SoundCovers : Type 0
SoundCovers = (h : Heading) (t : Tree) → IsHeading h → IsSound h t → (p : Point) → IsInRegion h.region p
    → (box : Square) × (i : ℕ) × (StandsAt unit_square t box (Shown i) ⊎ StandsAt unit_square t box (Corner i)) × IsInBox box p

-- and has a corridor of the listed word for which it is shown
abbrev pub SoundIsCovered : Type 0
SoundIsCovered = (h : Heading) (t : Tree) → IsHeading h → IsSound h t → IsCovered h

-- where a region is covered, every point of it has a listed word with a corridor there
abbrev pub CoveredEverywhere : Type 0
CoveredEverywhere = (h : Heading) → IsHeading h → IsCovered h → (p : Point) → IsInRegion h.region p
    → (i : ℕ) × IsListed h.words i × HasCorridor (word_at h.words i) p.x p.y

abbrev pub SureIsSound : Type 0
SureIsSound = (h : Heading) (t : Tree) → IsSure h t → IsSound h t

-- the text of a file is that of its lines
abbrev pub FileTextIsLines : Type 0
FileTextIsLines = (h : Heading) (t : Tree) → file_text h t ≡ text_of (file_lines h (preorder t))

-- bytes that begin with the texts of two files begin with one, where the word numbers of one of the trees are listed
abbrev pub FileIsOne : Type 0
FileIsOne = (g h : Heading) (s t : Tree) (x y : List ℕ) → IsHeading g → IsHeading h → All (IsNode (length g.words) g.version) (preorder s)
    → file_text g s ++ x ≡ file_text h t ++ y → (g ≡ h) × (s ≡ t) × (x ≡ y)

-- ---- verdicts

-- an accepted file is whole, and its region is covered
abbrev pub AcceptedIsCovering : Type 0
AcceptedIsCovering = (limit nodes words : ℕ) (bytes : List ℕ) → IsAccepted limit nodes words bytes → IsCovering limit bytes

-- and its bytes are the text of no other file
abbrev pub AcceptedIsOne : Type 0
AcceptedIsOne = (e : Slacks) (nodes words : ℕ) (bytes : List ℕ) (file : IsFileWith e nodes words bytes) (h : Heading) (t : Tree) → IsHeading h
    → bytes ≡ file_text h t → (h ≡ file.heading) × (t ≡ file.tree)

-- a file whose lines can all pass is accepted
abbrev pub PassedIsAccepted : Type 0
PassedIsAccepted = (limit : ℕ) (h : Heading) (nodes : List Node) → IsHeading h → (nodes_part check_claims limit h).Says nodes
    → IsAccepted limit (length nodes) (length h.words) (text_of (file_lines h nodes))

-- no line of a file with a sure tree within the limit is refused
abbrev pub SureIsNotRefused : Type 0
SureIsNotRefused = (limit : ℕ) (bytes : List ℕ) (line : ℕ) (reason : Reason) → IsSureFile limit bytes → ¬ (IsRefused limit line reason bytes)

-- The node may stand at the box with the narrower slacks, and not with the wider ones: a listed word, shown on the box or at its corners.
abbrev pub IsNodeBetween : Heading → Square → Node → Type 0
IsNodeBetween h box (Shown i) =
    IsListed h.words i × IsClear (word_at h.words i) box slacks.sound.gradient × ¬ (IsClear (word_at h.words i) box slacks.sure.gradient)
IsNodeBetween h box (Corner i) =
    IsListed h.words i × IsCornerClear (word_at h.words i) box slacks.sound.corner × ¬ (IsCornerClear (word_at h.words i) box slacks.sure.corner)
IsNodeBetween h box node = ⊥

-- This line of a file, counted from 1, is that of such a node, at the box that is due after the nodes before it.
pub record HasNodeBetween (bytes : List ℕ) (line : ℕ) : Type 0 where
  pub heading : Heading
  pub before : List Node
  pub node : Node
  pub box : Square
  pub rest : List ℕ
  pub is_heading : IsHeading heading
  pub text : bytes ≡ text_of (header_lines Cover heading ++ (map node_line before ++ node_line node ∷ [])) ++ rest
  pub number : line ≡ length (header_lines Cover heading) + (length before + 1)
  pub due : first_of (due_boxes before) ≡ Some box
  pub between : IsNodeBetween heading box node

-- two refusals of one file are one, or else the lesser of their lines is such a line
abbrev pub RefusalsDifferBetween : Type 0
RefusalsDifferBetween = (limit line other : ℕ) (reason reason' : Reason) (bytes : List ℕ) → IsRefused limit line reason bytes
    → IsRefused limit other reason' bytes → ((line ≡ other) × (reason ≡ reason')) ⊎ HasNodeBetween bytes (min line other)

-- a file that is accepted is refused only at such a line
abbrev pub AcceptedIsRefusedBetween : Type 0
AcceptedIsRefusedBetween = (limit nodes words line : ℕ) (reason : Reason) (bytes : List ℕ) → IsAccepted limit nodes words bytes
    → IsRefused limit line reason bytes → HasNodeBetween bytes line

-- ---- files that are read without being judged

-- no line of a file with a tree within the limit offends where no box is judged, up to a limit of 2^32
abbrev pub TreeFileNeverOffends : Type 0
TreeFileNeverOffends = (limit : ℕ) (f : TreeFile) (line : ℕ) (reason : Reason) → limit < 2 ^ 32 → IsTreeFile limit f
    → ¬ (IsFirstOffence (whole_tree_file limit).grammar (tree_file_text f) line reason)

-- and another text offends first at one line, and there by one least reason
abbrev pub TreeFileOffenceIsOne : Type 0
TreeFileOffenceIsOne = (limit : ℕ) → limit < 2 ^ 32 → OffenceIsOne (whole_tree_file limit).grammar

-- the tree of a file that is upgraded is sound exactly where it was before
abbrev pub UpgradedIsSound : Type 0
UpgradedIsSound = (limit version : ℕ) (h : Heading) (t : Tree) → IsVersion version → IsTreeOf limit h t → IsSound (upgraded version h) t ↔ IsSound h t

-- and sure exactly where it was
abbrev pub UpgradedIsSure : Type 0
UpgradedIsSure = (limit version : ℕ) (h : Heading) (t : Tree) → IsVersion version → IsTreeOf limit h t → IsSure (upgraded version h) t ↔ IsSure h t
