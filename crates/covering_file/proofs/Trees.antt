-- Trees, the lists of their nodes, and the boxes at which the nodes stand.
use Rattle.std.proofs.Common.{◌≡◌, ◌≢◌, ◌⊎◌, inl, inr, ℕ, zero, suc, ◌<◌, List, [], ◌∷◌, ◌++◌, length, take, refl, sym, ap, ◌∙◌, subst, arith, append_assoc}
use Rattle.std.proofs.lemmas.List.{append-nil}
use Rattle.std.proofs.lemmas.List.Elements.{All-nil, All-cons}
use Rattle.std.specs.List.{All, fold, flat_map}
use Rattle.rational_polygon.specs.Square.{Square, unit_square, child}
use Rattle.covering_file.specs.declared.node.Node.{Node}
use Rattle.covering_file.specs.declared.node.Node.TheVariants.{Split}
use Rattle.covering_file.specs.Node.{IsLeaf}
use Rattle.covering_file.specs.Tree.{Tree, leaf, split, preorder, StandsAt}
use Rattle.covering_file.specs.DueBoxes.{children, due_after, due_boxes, AreDue, AreWhole, StandsIn}
use Rattle.covering_file.specs.Laws.{WholeIsTree, TreeIsOne, StandingIsDue}

-- the lists of four trees, and what stands behind them
pub regroup : {A : Type 0} (a b c d e : List A) → (((a ++ b) ++ c) ++ d) ++ e ≡ a ++ (b ++ (c ++ (d ++ e)))
regroup a b c d e = simp append_assoc

-- ---- leaves

-- a leaf takes its box away
pub due_after-leaf : (box : Square) (due : List Square) (n : Node) → IsLeaf n → due_after (box ∷ due) n ≡ due
due_after-leaf box due Split is = absurd is
due_after-leaf box due n is = refl

pub split_or_leaf : (n : Node) → (n ≡ Split) ⊎ IsLeaf n
split_or_leaf Split = inl refl
split_or_leaf n = inr tt

pub leaf_is_no_split : (n : Node) → IsLeaf n → n ≡ Split → ⊥
leaf_is_no_split n is same = subst IsLeaf same is

same_leaf_of : (n : Node) (is is' : IsLeaf n) → leaf n is ≡ leaf n is'
same_leaf_of Split is is' = absurd is
same_leaf_of n is is' = refl

pub same_leaf : (m n : Node) (is : IsLeaf m) (is' : IsLeaf n) → m ≡ n → leaf m is ≡ leaf n is'
same_leaf m n is is' same =
    let P : Node → Type 0 = λ k. (is' : IsLeaf k) → leaf m is ≡ leaf k is' in
    subst P same (same_leaf_of m is) is'

-- ---- a box is due before each node, where the boxes `due` are before the first

abbrev pub AreDueFrom : List Square → List Node → Type 0
AreDueFrom due nodes = (k : ℕ) → k < length nodes → fold due_after due (take k nodes) ≢ []

pub due_behind : (due : List Square) (n : Node) (nodes : List Node) → AreDueFrom due (n ∷ nodes) → AreDueFrom (due_after due n) nodes
due_behind due n nodes are k within = are (suc k) (omega arith)

pub due_before : (box : Square) (due : List Square) (n : Node) (nodes : List Node) → AreDueFrom (due_after (box ∷ due) n) nodes
    → AreDueFrom (box ∷ due) (n ∷ nodes)
due_before box due n nodes are zero within none = cc
due_before box due n nodes are (suc k) within none = are k (omega arith) none

-- What holds of each node that stands at some box holds of all. Here `due` are the boxes before the first node.
pub each_stands : (Q : Node → Type 0) (nodes : List Node) (due : List Square) → AreDueFrom due nodes
    → ((box : Square) (n : Node) → StandsIn due nodes box n → Q n) → All Q nodes
each_stands Q [] due are holds = All-nil Q
each_stands Q (n ∷ nodes) [] are holds = absurd (are 0 (omega arith) refl)
each_stands Q (n ∷ nodes) (box ∷ due) are holds =
    All-cons Q n nodes (holds box n (inl (refl, refl))) (each_stands Q nodes (due_after (box ∷ due) n) (due_behind (box ∷ due) n nodes are)
    (λ at m stands. holds at m (inr stands)))

-- where no box is due, none is due later
fold-none : (nodes : List Node) → fold due_after [] nodes ≡ []
fold-none [] = refl
fold-none (n ∷ nodes) = fold-none nodes

-- a node behind others stands at the first box that is due after them
pub stands_next : (nodes : List Node) (due : List Square) (n : Node) (more : List Node) (box : Square) (others : List Square)
    → fold due_after due nodes ≡ box ∷ others → StandsIn due (nodes ++ n ∷ more) box n
stands_next [] due n more box others is = subst (λ (boxes : List Square). StandsIn boxes (n ∷ more) box n) (sym is) (inl (refl, refl))
stands_next (m ∷ nodes) [] n more box others is = absurd (no_box box others (sym (fold-none nodes) ∙ is))
  where
    no_box : (box : Square) (others : List Square) → [] ≡ box ∷ others → ⊥
    no_box box others is = cc
stands_next (m ∷ nodes) (first ∷ due) n more box others is = inr (stands_next nodes (due_after (first ∷ due) m) n more box others is)

-- a node that stands among these is one of the first, or the last, at the first box that is due before it
pub stands_last : (nodes : List Node) (due : List Square) (n : Node) (box : Square) (others : List Square) (at : Square) (m : Node)
    → fold due_after due nodes ≡ box ∷ others → StandsIn due (nodes ++ n ∷ []) at m → StandsIn due nodes at m ⊎ ((at ≡ box) × (m ≡ n))
stands_last [] due n box others at m is stands =
    let here : ((at ≡ box) × (m ≡ n)) ⊎ StandsIn (due_after (box ∷ others) n) [] at m =
    subst (λ (boxes : List Square). StandsIn boxes (n ∷ []) at m) is stands in
    elim here [ inl one ↦ inr one | inr none ↦ absurd none ]
stands_last (k ∷ nodes) [] n box others at m is stands = absurd stands
stands_last (k ∷ nodes) (first ∷ due) n box others at m is (inl here) = inl (inl here)
stands_last (k ∷ nodes) (first ∷ due) n box others at m is (inr stands) =
    elim (stands_last nodes (due_after (first ∷ due) k) n box others at m is stands) [ inl s ↦ inl (inr s) | inr last ↦ inr last ]

-- the nodes of a tree, and then others
due_in_tree : (t : Tree) (box : Square) (due : List Square) (nodes : List Node) → AreDueFrom due nodes → AreDueFrom (box ∷ due) (preorder t ++ nodes)
due_in_tree (leaf n is) box due nodes are =
    due_before box due n nodes (subst (λ (boxes : List Square). AreDueFrom boxes nodes) (sym (due_after-leaf box due n is)) are)
due_in_tree (split a b c d) box due nodes are =
    let from_d = due_in_tree d (child box 3) due nodes are in
    let from_c = due_in_tree c (child box 2) (child box 3 ∷ due) (preorder d ++ nodes) from_d in
    let from_b = due_in_tree b (child box 1) (child box 2 ∷ child box 3 ∷ due) (preorder c ++ (preorder d ++ nodes)) from_c in
    let from_a = due_in_tree a (child box 0) (child box 1 ∷ child box 2 ∷ child box 3 ∷ due) (preorder b ++ (preorder c ++ (preorder d ++ nodes))) from_b in
    let behind = subst (λ (ns : List Node). AreDueFrom (children box ++ due) ns)
    (sym (regroup (preorder a) (preorder b) (preorder c) (preorder d) nodes)) from_a in
    due_before box due Split ((((preorder a ++ preorder b) ++ preorder c) ++ preorder d) ++ nodes) behind

-- a tree takes its box away
pub fold-preorder : (t : Tree) (box : Square) (due : List Square) (nodes : List Node)
    → fold due_after (box ∷ due) (preorder t ++ nodes) ≡ fold due_after due nodes
fold-preorder (leaf n is) box due nodes = ap (λ (boxes : List Square). fold due_after boxes nodes) (due_after-leaf box due n is)
fold-preorder (split a b c d) box due nodes =
    ap (λ (ns : List Node). fold due_after (children box ++ due) ns) (regroup (preorder a) (preorder b) (preorder c) (preorder d) nodes)
    ∙ fold-preorder a (child box 0) (child box 1 ∷ child box 2 ∷ child box 3 ∷ due) (preorder b ++ (preorder c ++ (preorder d ++ nodes)))
    ∙ fold-preorder b (child box 1) (child box 2 ∷ child box 3 ∷ due) (preorder c ++ (preorder d ++ nodes))
    ∙ fold-preorder c (child box 2) (child box 3 ∷ due) (preorder d ++ nodes)
    ∙ fold-preorder d (child box 3) due nodes

pub tree_is_whole : (t : Tree) → AreWhole (preorder t)
tree_is_whole t =
    let none : AreDueFrom [] [] = λ k within. absurd (omega arith) in
    let due = due_in_tree t unit_square [] [] none in
    record {
      due = subst (λ (ns : List Node). AreDue ns) (append-nil (preorder t)) due;
      none_left = ap (λ (ns : List Node). due_boxes ns) (sym (append-nil (preorder t))) ∙ fold-preorder t unit_square [] [];
    }

-- ---- the trees of a list of nodes

-- so many trees have these nodes
record Forest (count : ℕ) (nodes : List Node) : Type 0 where
  trees : List Tree
  size : length trees ≡ count
  list : flat_map preorder trees ≡ nodes

planted : (n : Node) → IsLeaf n → (count : ℕ) (nodes : List Node) → Forest count nodes → Forest (suc count) (n ∷ nodes)
planted n is count nodes f = record {
  trees = leaf n is ∷ f.trees;
  size = ap (λ k. suc k) f.size;
  list = ap (λ (ns : List Node). n ∷ ns) f.list;
}

joined : (ts : List Tree) (count : ℕ) (nodes : List Node) → length ts ≡ suc (suc (suc (suc count))) → flat_map preorder ts ≡ nodes
    → Forest (suc count) (Split ∷ nodes)
joined (a ∷ b ∷ c ∷ d ∷ ts) count nodes size list = record {
  trees = split a b c d ∷ ts;
  size = omega (arith, size);
  list = ap (λ (ns : List Node). Split ∷ ns) (regroup (preorder a) (preorder b) (preorder c) (preorder d) (flat_map preorder ts) ∙ list);
}
joined ts count nodes size list = absurd (omega (arith, size))

forest : (nodes : List Node) (due : List Square) → AreDueFrom due nodes → fold due_after due nodes ≡ [] → Forest (length due) nodes
forest [] [] are none = record { trees = []; size = refl; list = refl }
forest [] (box ∷ due) are none = cc
forest (n ∷ nodes) [] are none = absurd (are 0 (omega arith) refl)
forest (Split ∷ nodes) (box ∷ due) are none =
    let f = forest nodes (children box ++ due) (due_behind (box ∷ due) Split nodes are) none in
    joined f.trees (length due) nodes f.size f.list
forest (n ∷ nodes) (box ∷ due) are none = planted n tt (length due) nodes (forest nodes due (due_behind (box ∷ due) n nodes are) none)

alone : (ts : List Tree) (nodes : List Node) → length ts ≡ 1 → flat_map preorder ts ≡ nodes → (t : Tree) × (preorder t ≡ nodes)
alone (t ∷ []) nodes size list = (t, sym (append-nil (preorder t)) ∙ list)
alone ts nodes size list = absurd (omega (arith, size))

pub whole_has_tree : (nodes : List Node) → AreWhole nodes → (t : Tree) × (preorder t ≡ nodes)
whole_has_tree nodes whole =
    let f = forest nodes (unit_square ∷ []) whole.due whole.none_left in
    alone f.trees nodes f.size f.list

pub whole_is_tree : WholeIsTree
whole_is_tree nodes = (whole_has_tree nodes, λ tree. subst AreWhole tree.1 (tree_is_whole tree.0))

-- ---- one tree

pub same_split : (a b c d a' b' c' d' : Tree) → a ≡ a' → b ≡ b' → c ≡ c' → d ≡ d' → split a b c d ≡ split a' b' c' d'
same_split a b c d a' b' c' d' p q r s = cc

unique : (s t : Tree) (xs ys : List Node) → preorder s ++ xs ≡ preorder t ++ ys → (s ≡ t) × (xs ≡ ys)
unique (leaf m of_m) (leaf n of_n) xs ys is =
    let head : m ≡ n = cc in
    let rest : xs ≡ ys = cc in
    (same_leaf m n of_m of_n head, rest)
unique (leaf m of_m) (split a b c d) xs ys is =
    let head : m ≡ Split = cc in
    absurd (leaf_is_no_split m of_m head)
unique (split a b c d) (leaf n of_n) xs ys is =
    let head : n ≡ Split = cc in
    absurd (leaf_is_no_split n of_n head)
unique (split a b c d) (split a' b' c' d') xs ys is =
    let rest : (((preorder a ++ preorder b) ++ preorder c) ++ preorder d) ++ xs ≡ (((preorder a' ++ preorder b') ++ preorder c') ++ preorder d') ++ ys = cc in
    let flat = sym (regroup (preorder a) (preorder b) (preorder c) (preorder d) xs) ∙ rest
    ∙ regroup (preorder a') (preorder b') (preorder c') (preorder d') ys in
    let first = unique a a' (preorder b ++ (preorder c ++ (preorder d ++ xs))) (preorder b' ++ (preorder c' ++ (preorder d' ++ ys))) flat in
    let second = unique b b' (preorder c ++ (preorder d ++ xs)) (preorder c' ++ (preorder d' ++ ys)) first.1 in
    let third = unique c c' (preorder d ++ xs) (preorder d' ++ ys) second.1 in
    let fourth = unique d d' xs ys third.1 in
    (same_split a b c d a' b' c' d' first.0 second.0 third.0 fourth.0, fourth.1)

pub tree_is_one : TreeIsOne
tree_is_one s t is =
    let same = unique s t [] [] (append-nil (preorder s) ∙ is ∙ sym (append-nil (preorder t))) in
    same.0

-- ---- where a node stands

behind_split : (a b c d : Tree) (root : Square) (due : List Square) (nodes : List Node) (box : Square) (node : Node)
    → StandsIn (children root ++ due) (preorder a ++ (preorder b ++ (preorder c ++ (preorder d ++ nodes)))) box node
    → StandsIn (root ∷ due) (preorder (split a b c d) ++ nodes) box node
behind_split a b c d root due nodes box node stands =
    inr (subst (λ (ns : List Node). StandsIn (children root ++ due) ns box node)
    (sym (regroup (preorder a) (preorder b) (preorder c) (preorder d) nodes)) stands)

in_list : (t : Tree) (root : Square) (due : List Square) (nodes : List Node) (box : Square) (node : Node) → StandsAt root t box node
    ⊎ StandsIn due nodes box node → StandsIn (root ∷ due) (preorder t ++ nodes) box node
in_list (leaf n is) root due nodes box node stands =
    subst (λ (boxes : List Square). ((box ≡ root) × (node ≡ n)) ⊎ StandsIn boxes nodes box node) (sym (due_after-leaf root due n is)) stands
in_list (split a b c d) root due nodes box node stands =
    let in_d = λ (s : StandsAt (child root 3) d box node ⊎ StandsIn due nodes box node). in_list d (child root 3) due nodes box node s in
    let in_c = λ (s : StandsAt (child root 2) c box node ⊎ StandsIn (child root 3 ∷ due) (preorder d ++ nodes) box node). in_list c (child root 2)
    (child root 3 ∷ due) (preorder d ++ nodes) box node s in
    let in_b = λ (s : StandsAt (child root 1) b box node ⊎ StandsIn (child root 2 ∷ child root 3 ∷ due) (preorder c
    ++ (preorder d ++ nodes)) box node). in_list b (child root 1) (child root 2 ∷ child root 3 ∷ due) (preorder c ++ (preorder d ++ nodes)) box node s in
    let in_a = λ (s : StandsAt (child root 0) a box node ⊎ StandsIn (child root 1 ∷ child root 2 ∷ child root 3 ∷ due) (preorder b
    ++ (preorder c ++ (preorder d ++ nodes))) box node).
    behind_split a b c d root due nodes box node (in_list a (child root 0) (child root 1 ∷ child root 2 ∷ child root 3 ∷ due)
    (preorder b ++ (preorder c ++ (preorder d ++ nodes))) box node s) in
    elim stands [
      | inl at ↦ elim at [
        | inl here ↦ inl here
        | inr below ↦ elim below [
          | inl s ↦ in_a (inl s)
          | inr later ↦ elim later [
            | inl s ↦ in_a (inr (in_b (inl s)))
            | inr last ↦ elim last [ inl s ↦ in_a (inr (in_b (inr (in_c (inl s))))) | inr s ↦ in_a (inr (in_b (inr (in_c (inr (in_d (inl s))))))) ]
          ]
        ]
      ]
      | inr s ↦ in_a (inr (in_b (inr (in_c (inr (in_d (inr s)))))))
    ]

in_tree : (t : Tree) (root : Square) (due : List Square) (nodes : List Node) (box : Square) (node : Node)
    → StandsIn (root ∷ due) (preorder t ++ nodes) box node → StandsAt root t box node ⊎ StandsIn due nodes box node
in_tree (leaf n is) root due nodes box node stands =
    subst (λ (boxes : List Square). ((box ≡ root) × (node ≡ n)) ⊎ StandsIn boxes nodes box node) (due_after-leaf root due n is) stands
in_tree (split a b c d) root due nodes box node (inl here) = inl (inl here)
in_tree (split a b c d) root due nodes box node (inr stands) =
    let flat = subst (λ (ns : List Node). StandsIn (children root ++ due) ns box node)
    (regroup (preorder a) (preorder b) (preorder c) (preorder d) nodes) stands in
    elim (in_tree a (child root 0) (child root 1 ∷ child root 2 ∷ child root 3 ∷ due) (preorder b ++ (preorder c ++ (preorder d ++ nodes))) box node flat) [
      | inl s ↦ inl (inr (inl s))
      | inr behind_a ↦ elim (in_tree b (child root 1) (child root 2 ∷ child root 3 ∷ due) (preorder c ++ (preorder d ++ nodes)) box node behind_a) [
        | inl s ↦ inl (inr (inr (inl s)))
        | inr behind_b ↦ elim (in_tree c (child root 2) (child root 3 ∷ due) (preorder d ++ nodes) box node behind_b) [
          | inl s ↦ inl (inr (inr (inr (inl s))))
          | inr behind_c ↦ elim (in_tree d (child root 3) due nodes box node behind_c) [ inl s ↦ inl (inr (inr (inr (inr s)))) | inr s ↦ inr s ]
        ]
      ]
    ]

pub tree_to_list : (t : Tree) (box : Square) (node : Node) → StandsAt unit_square t box node → StandsIn (unit_square ∷ []) (preorder t) box node
tree_to_list t box node stands =
    subst (λ (ns : List Node). StandsIn (unit_square ∷ []) ns box node) (append-nil (preorder t)) (in_list t unit_square [] [] box node (inl stands))

pub list_to_tree : (t : Tree) (box : Square) (node : Node) → StandsIn (unit_square ∷ []) (preorder t) box node → StandsAt unit_square t box node
list_to_tree t box node stands =
    let either = in_tree t unit_square [] [] box node (subst (λ (ns : List Node). StandsIn (unit_square ∷ []) ns box node)
    (sym (append-nil (preorder t))) stands) in
    elim either [ inl s ↦ s | inr s ↦ absurd s ]

pub standing_is_due : StandingIsDue
standing_is_due t box node = (tree_to_list t box node, list_to_tree t box node)
