-- A covering file that is read without being judged: which tree may stand in it, and which line of it offends.
use Rattle.std.specs.Prelude.{◌≡◌, ℕ, ◌<◌, ◌≤◌, max, List, length, ⊤}
use Rattle.rational_polygon.specs.Square.{Square, unit_square}
use Rattle.line_grammar.specs.declared.reason.Reason.{Reason}
use Rattle.line_grammar.specs.declared.reason.Reason.TheVariants.{SplitTooDeep, TooShallow}
use Rattle.line_grammar.specs.Part.{Part, seen_as, whole_text}
use Rattle.line_grammar.specs.Text.{text_of}
use Rattle.covering_file.specs.declared.node.Node.{Node}
use Rattle.covering_file.specs.declared.node.Node.TheVariants.{Split, Corner}
use Rattle.covering_file.specs.FilePart.{Claims, file_part, file_lines}
use Rattle.covering_file.specs.Header.{Heading, IsHeading}
use Rattle.covering_file.specs.Node.{IsNode}
use Rattle.covering_file.specs.Tree.{Tree, preorder, StandsAt}

-- what a header says, and the nodes of a tree in preorder
pub record TreeFile : Type 0 where
  pub heading : Heading
  pub nodes : List Node

-- ---- which trees may stand in a file

-- The box has a level at which such a node may stand: a split stands above the full depth, and corners are judged from level 10 on.
abbrev pub HasLevelFor : Heading → Square → Node → Type 0
HasLevelFor h box Split = box.level < h.depth
HasLevelFor h box (Corner i) = 10 ≤ box.level
HasLevelFor h box leaf = ⊤

-- A tree that a file with this heading may have, be its claims true or not: at most so many nodes, each number that of a listed word, each
-- node at a level for it.
pub record IsTreeOf (limit : ℕ) (h : Heading) (t : Tree) : Type 0 where
  pub within : length (preorder t) ≤ limit
  pub listed : (box : Square) (node : Node) → StandsAt unit_square t box node → IsNode (length h.words) h.version node
  pub levels : (box : Square) (node : Node) → StandsAt unit_square t box node → HasLevelFor h box node

-- the nodes are those of one such tree, whole
pub record IsTreeFile (limit : ℕ) (f : TreeFile) : Type 0 where
  pub is_heading : IsHeading f.heading
  pub tree : Tree
  pub nodes : preorder tree ≡ f.nodes
  pub is_tree : IsTreeOf limit f.heading tree

-- ---- reading one

-- the reason for which a node is refused at a level that is none for it
abbrev pub level_reason : Node → Reason
level_reason (Corner i) = TooShallow
level_reason node = SplitTooDeep

-- the box has no level for the node, and this is the reason
abbrev pub RefusesLevel : Heading → Square → Node → Reason → Type 0
RefusesLevel h box node r = (r ≡ level_reason node) × ¬ (HasLevelFor h box node)

-- All that is claimed of a node is its level: no box is judged, and none is refused for being uncovered.
abbrev pub level_claims : Claims
level_claims = record { MayStand = HasLevelFor; Has = RefusesLevel; Lacks = λ h box node r. ¬ (RefusesLevel h box node r) }

abbrev pub tree_file_lines : TreeFile → List (List ℕ)
tree_file_lines f = file_lines f.heading f.nodes

abbrev pub tree_file_text : TreeFile → List ℕ
tree_file_text f = text_of (tree_file_lines f)

-- a header, the nodes of its tree and the end line for them, whatever follows
abbrev pub tree_file_part : ℕ → Part TreeFile
tree_file_part limit = seen_as (file_part level_claims limit) (IsTreeFile limit) tree_file_lines

-- and nothing more
abbrev pub whole_tree_file : ℕ → Part TreeFile
whole_tree_file limit = whole_text (tree_file_part limit)

-- ---- upgrading

-- the same header in the greater of this version and its own
abbrev pub upgraded : ℕ → Heading → Heading
upgraded version h = record { version = max version h.version; region = h.region; words = h.words; depth = h.depth }
