-- What follows from the definitions alone.
use Rattle.std.specs.Prelude.{◌≡◌, ◌⊎◌, ℕ, ◌+◌, ◌≤◌, List}
use Rattle.rat_core.specs.Fraction.{◌≤ℚ◌}
use Rattle.rational_polygon.specs.Point.{Point}
use Rattle.rational_polygon.specs.Square.{Square, unit_square, IsInBox}
use Rattle.gradient_bounds.specs.Slacks.{Slacks}
use Rattle.gradient_bounds.specs.Slacks as slacks
use Rattle.covering_file.specs.declared.node.Node.{Node}
use Rattle.covering_file.specs.declared.node.Node.TheVariants.{Shown, Uncovered}
use Rattle.covering_file.specs.Header.{Heading}
use Rattle.covering_file.specs.Tree.{Tree, StandsAt, uncovered_in}
use Rattle.covering_file.specs.Sound.{IsSoundNode, IsSoundWith}
use Rattle.covering_claims.specs.Claims.{IsFirstClear}
use Rattle.cover_merge.specs.Overlay.{overlay}
use Rattle.cover_merge.specs.Fold.{IsFold}
use Rattle.cover_merge.specs.Parts.{size, SplitsAbove}

-- ---- where nodes come from

-- what stands in an overlay stands in one of the trees
abbrev pub OverlayIsOfBoth : Type 0
OverlayIsOfBoth = (s t : Tree) (root box : Square) (n : Node) → StandsAt root (overlay s t) box n → StandsAt root s box n ⊎ StandsAt root t box n

-- the node is shown for the first word that is clear on the box
abbrev pub IsShownFirst : List (List ℕ) → Square → Node → Type 0
IsShownFirst words box n = (i : ℕ) × (n ≡ Shown i) × IsFirstClear words slacks.sure.gradient slacks.findable.gradient box i

-- what stands in a fold stands in the tree, or is shown for the first word
abbrev pub FoldIsOfTree : Type 0
FoldIsOfTree = (words : List (List ℕ)) (o r : Tree) (root box : Square) (n : Node) → IsFold words root o r → StandsAt root r box n
    → StandsAt root o box n ⊎ IsShownFirst words box n

-- ---- boxes left uncovered

-- each point of the one box lies in the other
abbrev pub LiesIn : Square → Square → Type 0
LiesIn inner outer = (p : Point) → IsInBox inner p → IsInBox outer p

-- the box lies in one that the tree leaves uncovered
abbrev pub LiesInUncovered : Square → Tree → Square → Type 0
LiesInUncovered root t box = (outer : Square) × StandsAt root t outer Uncovered × LiesIn box outer

-- a box that an overlay leaves uncovered lies in an uncovered box of each tree
abbrev pub OverlayIsOpenWhereBothAre : Type 0
OverlayIsOpenWhereBothAre = (s t : Tree) (root box : Square) → StandsAt root (overlay s t) box Uncovered
    → LiesInUncovered root s box × LiesInUncovered root t box

-- a fold leaves only boxes uncovered that were
abbrev pub FoldIsOpenWhereTreeIs : Type 0
FoldIsOpenWhereTreeIs = (words : List (List ℕ)) (o r : Tree) (root box : Square) → IsFold words root o r → StandsAt root r box Uncovered
    → StandsAt root o box Uncovered

-- ---- sizes

abbrev pub OverlayIsSmall : Type 0
OverlayIsSmall = (s t : Tree) → size (overlay s t) ≤ size s + size t

abbrev pub FoldIsSmall : Type 0
FoldIsSmall = (words : List (List ℕ)) (o r : Tree) (root : Square) → IsFold words root o r → size r ≤ size o

abbrev pub OverlayIsNoDeeper : Type 0
OverlayIsNoDeeper = (depth : ℕ) (s t : Tree) (root : Square) → SplitsAbove depth root s → SplitsAbove depth root t → SplitsAbove depth root (overlay s t)

abbrev pub FoldIsNoDeeper : Type 0
FoldIsNoDeeper = (depth : ℕ) (words : List (List ℕ)) (o r : Tree) (root : Square) → IsFold words root o r → SplitsAbove depth root o
    → SplitsAbove depth root r

-- ---- soundness

-- each node may stand where it does with these slacks, or is uncovered
abbrev pub IsSoundButOpen : Slacks → Heading → Square → Tree → Type 0
IsSoundButOpen e h root t = (box : Square) (n : Node) → StandsAt root t box n → IsSoundNode h e box n ⊎ (n ≡ Uncovered)

abbrev pub OverlayKeepsSound : Type 0
OverlayKeepsSound = (e : Slacks) (h : Heading) (root : Square) (s t : Tree) → IsSoundButOpen e h root s → IsSoundButOpen e h root t
    → IsSoundButOpen e h root (overlay s t)

-- with slacks at most those of the words that a fold shows
abbrev pub FoldKeepsSound : Type 0
FoldKeepsSound = (e : Slacks) (h : Heading) (root : Square) (o r : Tree) → e.gradient ≤ℚ slacks.sure.gradient → IsFold h.words root o r
    → IsSoundButOpen e h root o → IsSoundButOpen e h root r

-- where none is uncovered, the tree is sound
abbrev pub ClosedIsSound : Type 0
ClosedIsSound = (e : Slacks) (h : Heading) (t : Tree) → IsSoundButOpen e h unit_square t → uncovered_in t ≡ 0 → IsSoundWith e h t
