-- The text of a file tells the file.
use Rattle.std.proofs.Common.{◌≡◌, ℕ, ◌+◌, ◌≤◌, List, [], ◌∷◌, ◌++◌, length, All, inl, inr, refl, sym, ap, ◌∙◌, subst, arith, length-append, append_assoc}
use Rattle.std.proofs.lemmas.List.{append_cancel_left, get_or_append_left, get_or-append-add}
use Rattle.std.proofs.lemmas.List.Elements.{All-head, All-tail, All-nil, All-cons, All-append}
use Rattle.mcb_ends.specs.Lines.{newline}
use Rattle.rational_polygon.specs.Square.{Square, unit_square, child}
use Rattle.covering_file.specs.declared.file_kind.FileKind.TheVariants.{Cover}
use Rattle.covering_file.specs.declared.node.Node.{Node}
use Rattle.covering_file.specs.declared.node.Node.TheVariants.{Split}
use Rattle.line_grammar.specs.Text.{with_newline}
use Rattle.covering_file.specs.Header.{Heading, header_text}
use Rattle.covering_file.specs.Node.{node_line, IsNode, end_line}
use Rattle.covering_file.specs.Tree.{Tree, leaf, split, preorder, StandsAt, tree_text, uncovered_in, file_text}
use Rattle.covering_file.specs.Laws.{FileIsOne, AcceptedIsOne}
use Rattle.line_grammar.proofs.Lines.{parted}
use Rattle.covering_file.proofs.NodeLines.{node_line-one, one_node, sound_is_node}
use Rattle.covering_file.proofs.HeaderLaws.{header_is_one}
use Rattle.covering_file.proofs.Trees.{regroup, same_leaf, leaf_is_no_split, same_split}

-- the line of a node of a file, and what stands behind it
node_in_front : (words version : ℕ) → words ≤ 32 → (m n : Node) (x y : List ℕ) → IsNode words version m
    → with_newline (node_line m) ++ x ≡ with_newline (node_line n) ++ y → (m ≡ n) × (x ≡ y)
node_in_front words version few m n x y is same =
    let line = parted newline (node_line m) (node_line n) x y (node_line-one m) (node_line-one n)
    (sym (append_assoc (node_line m) (newline ∷ []) x) ∙ same ∙ append_assoc (node_line n) (newline ∷ []) y) in
    (one_node words version few m n is line.0, line.1)

-- ---- what holds of all nodes of a split

all_left : {A : Type 0} (P : A → Type 0) (xs ys : List A) → All P (xs ++ ys) → All P xs
all_left P xs ys all k d within = subst P (get_or_append_left xs ys d k within) (all k d (omega (arith, within, length-append xs ys)))

all_right : {A : Type 0} (P : A → Type 0) (xs ys : List A) → All P (xs ++ ys) → All P ys
all_right P xs ys all k d within = subst P (get_or-append-add xs ys k d) (all (length xs + k) d (omega (arith, within, length-append xs ys)))

-- ---- a tree, and what stands behind it

tree_in_front : (words version : ℕ) → words ≤ 32 → (s t : Tree) (x y : List ℕ) → All (IsNode words version) (preorder s)
    → tree_text s ++ x ≡ tree_text t ++ y
    → (s ≡ t) × (x ≡ y)
tree_in_front words version few (leaf m of_m) (leaf n of_n) x y each same =
    let node = node_in_front words version few m n x y (All-head (IsNode words version) m [] each) same in
    (same_leaf m n of_m of_n node.0, node.1)
tree_in_front words version few (leaf m of_m) (split a b c d) x y each same =
    let behind = (((tree_text a ++ tree_text b) ++ tree_text c) ++ tree_text d) ++ y in
    let node = node_in_front words version few m Split x behind (All-head (IsNode words version) m [] each) same in
    absurd (leaf_is_no_split m of_m node.0)
tree_in_front words version few (split a b c d) (leaf n of_n) x y each same =
    let behind = (((tree_text a ++ tree_text b) ++ tree_text c) ++ tree_text d) ++ x in
    let node = node_in_front words version few Split n behind y tt same in
    absurd (leaf_is_no_split n of_n (sym node.0))
tree_in_front words version few (split a b c d) (split a' b' c' d') x y each same =
    let behind = (((tree_text a ++ tree_text b) ++ tree_text c) ++ tree_text d) ++ x in
    let behind' = (((tree_text a' ++ tree_text b') ++ tree_text c') ++ tree_text d') ++ y in
    let rest = (node_in_front words version few Split Split behind behind' tt same).1 in
    let flat = sym (regroup (tree_text a) (tree_text b) (tree_text c) (tree_text d) x) ∙ rest
    ∙ regroup (tree_text a') (tree_text b') (tree_text c') (tree_text d') y in
    let P = IsNode words version in
    let all = All-tail P Split (((preorder a ++ preorder b) ++ preorder c) ++ preorder d) each in
    let of_abc = all_left P ((preorder a ++ preorder b) ++ preorder c) (preorder d) all in
    let of_ab = all_left P (preorder a ++ preorder b) (preorder c) of_abc in
    let first = tree_in_front words version few a a' (tree_text b ++ (tree_text c ++ (tree_text d ++ x)))
    (tree_text b' ++ (tree_text c' ++ (tree_text d' ++ y))) (all_left P (preorder a) (preorder b) of_ab) flat in
    let second = tree_in_front words version few b b' (tree_text c ++ (tree_text d ++ x)) (tree_text c' ++ (tree_text d' ++ y))
    (all_right P (preorder a) (preorder b) of_ab) first.1 in
    let third = tree_in_front words version few c c' (tree_text d ++ x) (tree_text d' ++ y)
    (all_right P (preorder a ++ preorder b) (preorder c) of_abc) second.1 in
    let fourth = tree_in_front words version few d d' x y (all_right P ((preorder a ++ preorder b) ++ preorder c) (preorder d) all) third.1 in
    (same_split a b c d a' b' c' d' first.0 second.0 third.0 fourth.0, fourth.1)

-- ---- a file

parts : (h : Heading) (t : Tree) (x : List ℕ) → file_text h t ++ x ≡ header_text Cover h ++ (tree_text t ++ (with_newline (end_line (uncovered_in t)) ++ x))
parts h t x =
    let end = with_newline (end_line (uncovered_in t)) in
    append_assoc (header_text Cover h ++ tree_text t) end x ∙ append_assoc (header_text Cover h) (tree_text t) (end ++ x)

pub file_is_one : FileIsOne
file_is_one g h s t x y heading heading' nodes same =
    let end = with_newline (end_line (uncovered_in s)) in
    let end' = with_newline (end_line (uncovered_in t)) in
    let header = header_is_one Cover Cover g h (tree_text s ++ (end ++ x)) (tree_text t ++ (end' ++ y)) heading heading'
    (sym (parts g s x) ∙ same ∙ parts h t y) in
    let tree = tree_in_front (length g.words) g.version heading.word_count.1 s t (end ++ x) (end' ++ y) nodes header.2 in
    let rest = append_cancel_left end x y (tree.1 ∙ ap (λ (u : Tree). with_newline (end_line (uncovered_in u)) ++ y) (sym tree.0)) in
    (header.1, tree.0, rest)

-- ---- an accepted file

-- what holds of each node that stands in a tree holds of all its nodes
all_standing : (P : Node → Type 0) (root : Square) (t : Tree) → ((box : Square) (node : Node) → StandsAt root t box node → P node) → All P (preorder t)
all_standing P root (leaf n is) each = All-cons P n [] (each root n (refl, refl)) (All-nil P)
all_standing P root (split a b c d) each =
    let first = all_standing P (child root 0) a (λ box node stands. each box node (inr (inl stands))) in
    let second = all_standing P (child root 1) b (λ box node stands. each box node (inr (inr (inl stands)))) in
    let third = all_standing P (child root 2) c (λ box node stands. each box node (inr (inr (inr (inl stands))))) in
    let fourth = all_standing P (child root 3) d (λ box node stands. each box node (inr (inr (inr (inr stands))))) in
    let of_ab = All-append P (preorder a) (preorder b) first second in
    let of_abc = All-append P (preorder a ++ preorder b) (preorder c) of_ab third in
    All-cons P Split (((preorder a ++ preorder b) ++ preorder c) ++ preorder d) (each root Split (inl (refl, refl)))
    (All-append P ((preorder a ++ preorder b) ++ preorder c) (preorder d) of_abc fourth)

pub accepted_is_one : AcceptedIsOne
accepted_is_one e nodes words bytes file h t heading is =
    let listed = all_standing (IsNode (length file.heading.words) file.heading.version) unit_square file.tree
    (λ box node stands. sound_is_node file.heading e box node (file.sound box node stands)) in
    let one = file_is_one file.heading h file.tree t [] [] file.is_heading heading listed (ap (λ (xs : List ℕ). xs ++ []) (sym file.text ∙ is)) in
    (sym one.0, sym one.1)
