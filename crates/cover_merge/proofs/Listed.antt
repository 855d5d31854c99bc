-- The nodes of trees, one after another in a list.
use Rattle.std.proofs.Common.{◌≡◌, inl, inr, refl, sym, ap, ◌∙◌, ℕ, ◌+◌, ◌<◌, List, [], ◌∷◌, ◌++◌, length, drop, get_or}
use Rattle.std.proofs.lemmas.List.{drop_more, drop_all, drop-drop, drop_at}
use Rattle.std.proofs.lemmas.Bool.{cases_lt}
use Rattle.covering_file.specs.declared.node.Node.{Node}
use Rattle.covering_file.specs.declared.node.Node.TheVariants.{Split}
use Rattle.covering_file.specs.Node.{IsLeaf}
use Rattle.covering_file.specs.Tree.{Tree, leaf, split, preorder}
use Rattle.covering_file.proofs.Trees.{regroup, same_leaf, leaf_is_no_split}
use Rattle.cover_merge.specs.Parts.{size, StandsFrom}

pub some_node : (t : Tree) (rest : List Node) → ¬ ([] ≡ preorder t ++ rest)
some_node (leaf n is) rest none = cc
some_node (split a b c d) rest none = cc

-- the tree that begins with this leaf
pub record IsLeafAhead (n : Node) (nodes : List Node) (t : Tree) (rest : List Node) : Type 0 where
  pub leaf_is : IsLeaf n
  pub tree : t ≡ leaf n leaf_is
  pub list : nodes ≡ rest

pub leaf_ahead : (n : Node) (list : List Node) (t : Tree) (rest : List Node) → IsLeaf n → n ∷ list ≡ preorder t ++ rest → IsLeafAhead n list t rest
leaf_ahead n list (leaf m of_m) rest is same =
    let head : m ≡ n = cc in
    let tail : list ≡ rest = cc in
    record { leaf_is = is; tree = same_leaf m n of_m is head; list = tail }
leaf_ahead n list (split a b c d) rest is same =
    let head : n ≡ Split = cc in
    absurd (leaf_is_no_split n is head)

-- the tree that begins with a split
pub record IsSplitAhead (nodes : List Node) (t : Tree) (rest : List Node) : Type 0 where
  pub a : Tree
  pub b : Tree
  pub c : Tree
  pub d : Tree
  pub tree : t ≡ split a b c d
  pub list : nodes ≡ preorder a ++ (preorder b ++ (preorder c ++ (preorder d ++ rest)))

pub split_ahead : (list : List Node) (t : Tree) (rest : List Node) → Split ∷ list ≡ preorder t ++ rest → IsSplitAhead list t rest
split_ahead list (leaf m is) rest same =
    let head : m ≡ Split = cc in
    absurd (leaf_is_no_split m is head)
split_ahead list (split a b c d) rest same =
    let tail : list ≡ (((preorder a ++ preorder b) ++ preorder c) ++ preorder d) ++ rest = cc in
    record { a = a; b = b; c = c; d = d; tree = refl; list = tail ∙ regroup (preorder a) (preorder b) (preorder c) (preorder d) rest }

-- the node at a place, and what is behind it
pub node_at : (nodes : List Node) (k : ℕ) (n : Node) → k < length nodes → get_or nodes k Split ≡ n → drop k nodes ≡ n ∷ drop (k + 1) nodes
node_at nodes k n within is = drop_more nodes k Split within ∙ ap (λ (m : Node). m ∷ drop (k + 1) nodes) is

pub after_first : (nodes : List Node) (k : ℕ) (n : Node) (list : List Node) → drop k nodes ≡ n ∷ list → drop (k + 1) nodes ≡ list
after_first nodes k n list head = sym (drop-drop 1 k nodes) ∙ ap (λ (ns : List Node). drop 1 ns) head

pub no_split_is_leaf : (n : Node) → ¬ (n ≡ Split) → IsLeaf n
no_split_is_leaf Split not = absurd (not refl)
no_split_is_leaf n not = tt

-- what is behind a tree
pub behind : (nodes : List Node) (start end : ℕ) (t : Tree) (rest : List Node) → drop start nodes ≡ preorder t ++ rest → end ≡ start + size t
    → drop end nodes ≡ rest
behind nodes start end t rest list is =
    ap (λ (k : ℕ). drop k nodes) is ∙ sym (drop-drop (size t) start nodes) ∙ ap (λ (ns : List Node). drop (size t) ns) list
    ∙ drop_at (preorder t) rest (size t) refl

-- a tree stands within its list
pub starts_within : (nodes : List Node) (start : ℕ) (t : Tree) → StandsFrom nodes start t → start < length nodes
starts_within nodes start t stands =
    elim (cases_lt start (length nodes)) [
      | inl within ↦ within
      | inr past ↦ absurd (some_node t stands.0 (sym (drop_all start nodes past) ∙ stands.1))
    ]
