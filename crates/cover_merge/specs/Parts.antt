-- The trees that stand in a list of nodes, how many nodes they have, and how deep they go.
use Rattle.std.specs.Prelude.{◌≡◌, ℕ, ◌+◌, ◌<◌, ◌↔◌, Bool, true, false, List, [], ◌∷◌, ◌++◌, length, take, drop}
use Rattle.rational_polygon.specs.Square.{Square}
use Rattle.gradient_bounds.specs.Slacks as slacks
use Rattle.covering_file.specs.declared.node.Node.{Node}
use Rattle.covering_file.specs.declared.node.Node.TheVariants.{Split, Shown}
use Rattle.covering_file.specs.Tree.{Tree, preorder, StandsAt}
use Rattle.covering_claims.specs.Claims.{NoneIsClear, IsFirstClear}
use Rattle.cover_merge.specs.declared.folding.Part.{Part}
use Rattle.cover_merge.specs.Fold.{IsShownLeaf, IsFold}

-- how many nodes it has
abbrev pub size : Tree → ℕ
size t = length (preorder t)

-- in the tree of `root`, splits stand above this level alone
abbrev pub SplitsAbove : ℕ → Square → Tree → Type 0
SplitsAbove depth root t = (box : Square) → StandsAt root t box Split → box.level < depth

-- the tree's nodes stand in the list from this place on
abbrev pub StandsFrom : List Node → ℕ → Tree → Type 0
StandsFrom nodes start t = (rest : List Node) × (drop start nodes ≡ preorder t ++ rest)

-- A fold of the tree that stands from `start` on was put behind the nodes.
pub record FoldsPart (words : List (List ℕ)) (box : Square) (start : ℕ) (t : Tree) (part : Part) (old new : List Node) : Type 0 where
  pub tree : Tree
  pub fold : IsFold words box t tree
  pub nodes : new ≡ old ++ preorder tree
  pub end : part.end ≡ start + size t
  pub shown : part.is_shown ≡ true ↔ IsShownLeaf tree

-- so for whatever tree stands there
abbrev pub FoldsFrom : List (List ℕ) → Square → List Node → ℕ → Part → List Node → List Node → Type 0
FoldsFrom words box nodes start part old new = (t : Tree) → StandsFrom nodes start t → FoldsPart words box start t part old new

-- One leaf, shown for the first word, stands in the place of the nodes from `at` on; or no word is clear on the box, and they stand.
abbrev pub Joins : List (List ℕ) → Square → ℕ → Bool → List Node → List Node → Type 0
Joins words box at true old new = (i : ℕ) × IsFirstClear words slacks.sure.gradient slacks.findable.gradient box i × (new ≡ take at old ++ Shown i ∷ [])
Joins words box at false old new = NoneIsClear words slacks.findable.gradient box × (new ≡ old)
