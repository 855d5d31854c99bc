-- The union of two lists of words, and a tree whose words have their numbers in it. All are this program's own.
use Rattle.std.specs.Prelude.{◌≡◌, ◌⊎◌, ℕ, ◌<◌, List, [], ◌∷◌, ◌++◌}
use Rattle.covering_file.specs.declared.node.Node.{Node}
use Rattle.covering_file.specs.declared.node.Node.TheVariants.{Shown, Corner}
use Rattle.covering_file.specs.Faults.{word_at, IsListed}
use Rattle.covering_file.specs.Node.{IsLeaf}
use Rattle.covering_file.specs.Tree.{Tree, leaf, split}

-- the word stands in the list
abbrev pub Lists : List (List ℕ) → List ℕ → Type 0
Lists words w = (i : ℕ) × IsListed words i × (word_at words i ≡ w)

-- the first words, and then, in their order, each of the others that does not stand earlier
abbrev pub IsUnion : List (List ℕ) → List (List ℕ) → List (List ℕ) → Type 0
IsUnion words [] union = union ≡ words
IsUnion words (w ∷ others) union = (Lists words w × IsUnion words others union) ⊎ ((¬ (Lists words w)) × IsUnion (words ++ w ∷ []) others union)

-- the least number at which the word stands
pub record IsNumberOf (union : List (List ℕ)) (w : List ℕ) (i : ℕ) : Type 0 where
  pub listed : IsListed union i
  pub word : word_at union i ≡ w
  pub earlier : (j : ℕ) → IsListed union j → j < i → ¬ (word_at union j ≡ w)

-- the node with another number of its word
abbrev pub with_number : (ℕ → ℕ) → Node → Node
with_number number (Shown i) = Shown (number i)
with_number number (Corner i) = Corner (number i)
with_number number n = n

abbrev pub leaf_stays : (number : ℕ → ℕ) (n : Node) → IsLeaf n → IsLeaf (with_number number n)
leaf_stays number (Shown i) is = is
leaf_stays number (Corner i) is = is
leaf_stays number n is = is

-- the tree with these numbers
abbrev pub renumbered : (ℕ → ℕ) → Tree → Tree
renumbered number (leaf n is) = leaf (with_number number n) (leaf_stays number n is)
renumbered number (split a b c d) = split (renumbered number a) (renumbered number b) (renumbered number c) (renumbered number d)
