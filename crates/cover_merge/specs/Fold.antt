-- Folding a quadtree: four leaves that are shown become one, where one word is shown on the whole box.
-- Source: Hanan Samet, The Quadtree and Related Hierarchical Data Structures, Computing Surveys 16 (1984): four brothers of one colour are merged. That one
-- word has to be shown on the whole box is this program's own.
use Rattle.std.specs.Prelude.{◌≡◌, ◌⊎◌, ℕ, List, ⊤}
use Rattle.rational_polygon.specs.Square.{Square, child}
use Rattle.gradient_bounds.specs.Slacks as slacks
use Rattle.covering_file.specs.declared.node.Node.TheVariants.{Shown}
use Rattle.covering_file.specs.Tree.{Tree, leaf, split}
use Rattle.covering_claims.specs.Claims.{NoneIsClear, IsFirstClear}

-- a leaf that is shown from its centre
abbrev pub IsShownLeaf : Tree → Type 0
IsShownLeaf (leaf (Shown i) is) = ⊤
IsShownLeaf t = ⊥

-- all four are
abbrev pub AreShown : Tree → Tree → Tree → Tree → Type 0
AreShown a b c d = IsShownLeaf a × IsShownLeaf b × IsShownLeaf c × IsShownLeaf d

-- Four folds stay apart where they are not all shown, or no word is clear on the whole box. Else they become one leaf, shown for the first word that is clear.
abbrev pub IsJoined : List (List ℕ) → Square → Tree → Tree → Tree → Tree → Tree → Type 0
IsJoined words box a b c d r =
    ((r ≡ split a b c d) × ((¬ (AreShown a b c d)) ⊎ NoneIsClear words slacks.findable.gradient box))
    ⊎ (AreShown a b c d × ((i : ℕ) × (r ≡ leaf (Shown i) tt) × IsFirstClear words slacks.sure.gradient slacks.findable.gradient box i))

-- r is a fold of the tree over the box
abbrev pub IsFold : List (List ℕ) → Square → Tree → Tree → Type 0
IsFold words box (leaf n is) r = r ≡ leaf n is
IsFold words box (split a b c d) r =
    (e : Tree) × (f : Tree) × (g : Tree) × (h : Tree)
    × IsFold words (child box 0) a e × IsFold words (child box 1) b f × IsFold words (child box 2) c g × IsFold words (child box 3) d h
    × IsJoined words box e f g h r
