-- What a merge of two covering files is, and what is answered for two files.
use Rattle.std.specs.Prelude.{◌≡◌, ℕ, ◌<◌, ◌≤◌, max, Bool, true, false, List, length, Ok, Err, ⊤}
use Rattle.std.specs.declared.option.Option.{Option}
use Rattle.std.specs.declared.result.Result.{Result}
use Rattle.rational_polygon.specs.Square.{unit_square}
use Rattle.line_grammar.specs.Reading.{ReadsInput}
use Rattle.covering_file.specs.declared.TheConstants.{MAX_WORDS}
use Rattle.covering_file.specs.declared.fault.HeadFault.{HeadFault}
use Rattle.covering_file.specs.declared.fault.HeadFault.TheVariants as head
use Rattle.covering_file.specs.Faults.{word_at, IsListed, head_refusal}
use Rattle.covering_file.specs.Tree.{Tree, preorder}
use Rattle.covering_file.specs.TreeFile.{TreeFile}
use Rattle.cover_merge.specs.declared.fault.MergeFault.{MergeFault}
use Rattle.cover_merge.specs.declared.fault.MergeFault.TheVariants.{Line, Differs, Words, Full, Read, Memory}
use Rattle.cover_merge.specs.Fold.{IsFold}
use Rattle.cover_merge.specs.Overlay.{overlay}
use Rattle.cover_merge.specs.Rounds.{two_files, AreAlike, AreTrueOrOpen, RefusesRegion, RefusesWords, RefusesClaim}
use Rattle.cover_merge.specs.Union.{IsUnion, IsNumberOf, renumbered}

-- The words are the union, the depth is the greater, and the tree is a fold of the overlay of the first tree and the second, whose words have
-- their numbers in the union.
pub record IsMerge (f g r : TreeFile) : Type 0 where
  pub version : r.heading.version ≡ f.heading.version
  pub region : r.heading.region ≡ f.heading.region
  pub words : IsUnion f.heading.words g.heading.words r.heading.words
  pub depth : r.heading.depth ≡ max f.heading.depth g.heading.depth
  pub first : Tree
  pub second : Tree
  pub tree : Tree
  pub first_nodes : preorder first ≡ f.nodes
  pub second_nodes : preorder second ≡ g.nodes
  pub nodes : preorder tree ≡ r.nodes
  pub number : ℕ → ℕ
  pub numbers : (i : ℕ) → IsListed g.heading.words i → IsNumberOf r.heading.words (word_at g.heading.words i) (number i)
  pub fold : IsFold r.heading.words unit_square (overlay first (renumbered number second)) tree

-- the union of the two lists of words, with at most 32 words
abbrev pub HasUnion : TreeFile → TreeFile → Type 0
HasUnion f g = (union : List (List ℕ)) × IsUnion f.heading.words g.heading.words union × (length union ≤ MAX_WORDS)

-- no round refuses the two files
pub record AreFit (f g : TreeFile) : Type 0 where
  pub alike : AreAlike f.heading g.heading
  pub union : HasUnion f g
  pub first : AreTrueOrOpen f.heading f.nodes
  pub second : AreTrueOrOpen g.heading g.nodes

-- What is answered for two files: the first round that refuses, or else a merge, or how many nodes one has that has too many.
abbrev pub Merges : ℕ → TreeFile → TreeFile → Result TreeFile MergeFault → Type 0
Merges limit f g (Ok r) = AreFit f g × IsMerge f g r × (length r.nodes ≤ limit)
Merges limit f g (Err (Line line reason)) = AreAlike f.heading g.heading × HasUnion f g × RefusesClaim f g line reason
Merges limit f g (Err (Differs line)) = RefusesRegion f g line
Merges limit f g (Err (Words line)) = AreAlike f.heading g.heading × RefusesWords f g line
Merges limit f g (Err (Full nodes)) = AreFit f g × ((r : TreeFile) × IsMerge f g r × (nodes ≡ length r.nodes) × (limit < nodes))
Merges limit f g (Err Read) = ⊥
Merges limit f g (Err Memory) = ⊤

-- ---- from the input on

-- the fault of reading, as that of a merge
abbrev pub fault_of : HeadFault → MergeFault
fault_of (head.Line line reason) = Line line reason
fault_of head.Read = Read
fault_of head.Memory = Memory

-- A fault of reading is answered. For two files follows what is answered for them.
abbrev pub FollowsReading : ℕ → Result (TreeFile × TreeFile) HeadFault → Result TreeFile MergeFault → Type 0
FollowsReading limit (Ok files) result = Merges limit files.0 files.1 result
FollowsReading limit (Err fault) result = result ≡ Err (fault_of fault)

-- The input is read as two files to its end, or refused, and what is answered follows from that.
pub record MergesInput (limit : ℕ) (left left' : Option (List ℕ)) (result : Result TreeFile MergeFault) : Type 0 where
  pub read : Result (TreeFile × TreeFile) HeadFault
  pub reads : ReadsInput (two_files limit) head_refusal left left' read
  pub follows : FollowsReading limit read result

-- the fault that comes from outside
abbrev pub is_merge_read : MergeFault → Bool
is_merge_read Read = true
is_merge_read fault = false
