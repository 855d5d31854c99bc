-- What follows of unions and of other numbers.
use Rattle.std.specs.Prelude.{◌≡◌, ◌⊎◌, ◌↔◌, ℕ, ◌≤◌, List, map}
use Rattle.rational_polygon.specs.Square.{Square}
use Rattle.gradient_bounds.specs.Slacks.{Slacks}
use Rattle.covering_file.specs.declared.node.Node.TheVariants.{Uncovered}
use Rattle.covering_file.specs.Faults.{word_at, IsListed}
use Rattle.covering_file.specs.Header.{Heading}
use Rattle.covering_file.specs.Tree.{Tree, preorder, StandsAt}
use Rattle.cover_merge.specs.Union.{Lists, IsUnion, with_number, renumbered}
use Rattle.cover_merge.specs.Laws.{IsSoundButOpen}

-- the first words keep their numbers
abbrev pub UnionKeepsFirst : Type 0
UnionKeepsFirst = (words others union : List (List ℕ)) (i : ℕ) → IsUnion words others union → IsListed words i
    → IsListed union i × (word_at union i ≡ word_at words i)

-- each of the others stands in it
abbrev pub UnionHasOthers : Type 0
UnionHasOthers = (words others union : List (List ℕ)) (i : ℕ) → IsUnion words others union → IsListed others i → Lists union (word_at others i)

-- and it has no more
abbrev pub UnionHasNoMore : Type 0
UnionHasNoMore = (words others union : List (List ℕ)) (w : List ℕ) → IsUnion words others union → Lists union w → Lists words w ⊎ Lists others w

-- ---- other numbers

abbrev pub RenumberedHasNodes : Type 0
RenumberedHasNodes = (number : ℕ → ℕ) (t : Tree) → preorder (renumbered number t) ≡ map (with_number number) (preorder t)

-- the same boxes are uncovered
abbrev pub RenumberedIsOpenWhereTreeIs : Type 0
RenumberedIsOpenWhereTreeIs = (number : ℕ → ℕ) (t : Tree) (root box : Square) → StandsAt root (renumbered number t) box Uncovered
    ↔ StandsAt root t box Uncovered

-- under a heading of the same version with the same region and at least the depth, in which each number stands for the same word
abbrev pub RenumberedKeepsSound : Type 0
RenumberedKeepsSound = (e : Slacks) (g h : Heading) (number : ℕ → ℕ) (t : Tree) (root : Square) → g.version ≡ h.version → g.region ≡ h.region
    → g.depth ≤ h.depth
    → ((i : ℕ) → IsListed g.words i → IsListed h.words (number i) × (word_at h.words (number i) ≡ word_at g.words i)) → IsSoundButOpen e g root t
    → IsSoundButOpen e h root (renumbered number t)
