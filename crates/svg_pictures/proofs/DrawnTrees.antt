-- The squares of a tree's leaves, as its nodes are drawn one after another at the boxes that are due.
use Rattle.std.proofs.Common.{◌≡◌, ◌≢◌, refl, sym, ap, ◌∙◌, subst, ℕ, suc, ◌+◌, ◌<◌, List, [], ◌∷◌, ◌++◌, length, take, drop, get_or, Some, None}
use Rattle.std.proofs.Common.{append_assoc, Option}
use Rattle.std.proofs.Math.Seq.{split_at}
use Rattle.std.proofs.lemmas.List.{append-nil, take_more}
use Rattle.std.proofs.lemmas.List.Sums.{fold-append}
use Rattle.std.specs.List.{fold}
use Rattle.std.specs.Io.KnownBytes.{Appends}
use Rattle.std.proofs.KnownBytes.{Appends-trans}
use Rattle.std.specs.Prelude.{IsSome, IsSomeAnd}
use Rattle.mcb_ends.specs.Bytes.{AppendsPrefix}
use Rattle.mcb_ends.proofs.Written.{AppendsPrefix-begun, AppendsPrefix-then}
use Rattle.rational_polygon.specs.Square.{Square, unit_square, child}
use Rattle.covering_file.specs.declared.node.Node.{Node}
use Rattle.covering_file.specs.declared.node.Node.TheVariants.{Split}
use Rattle.covering_file.specs.declared.TheConstants.{MAX_NODES}
use Rattle.covering_file.specs.DueBoxes.{children, due_after, due_boxes, first_of, AreWhole, StandsIn}
use Rattle.covering_file.specs.Tree.{Tree, leaf, split, preorder, StandsAt}
use Rattle.covering_file.specs.TreeFile.{TreeFile, IsTreeFile, HasLevelFor}
use Rattle.covering_file.specs.Walk.{Frontier}
use Rattle.covering_file.proofs.Trees.{regroup, due_after-leaf, tree_is_whole, list_to_tree, stands_next}
use Rattle.svg_pictures.specs.CoveringPicture.{node_text, drawn}

-- ---- the text of a list of nodes

-- what a node adds where these boxes are due before it
abbrev text_at : List Square → Node → List ℕ
text_at [] n = []
text_at (box ∷ due) n = node_text box n

-- what nodes add, one after another
abbrev pub drawn_in : List Square → List Node → List ℕ
drawn_in due [] = []
drawn_in due (n ∷ nodes) = text_at due n ++ drawn_in (due_after due n) nodes

drawn_in-append : (due : List Square) (xs ys : List Node) → drawn_in due (xs ++ ys) ≡ drawn_in due xs ++ drawn_in (fold due_after due xs) ys
drawn_in-append due [] ys = refl
drawn_in-append due (n ∷ xs) ys =
    ap (λ (text : List ℕ). text_at due n ++ text) (drawn_in-append (due_after due n) xs ys)
    ∙ sym (append_assoc (text_at due n) (drawn_in (due_after due n) xs) (drawn_in (fold due_after (due_after due n) xs) ys))

-- the nodes of a tree, and then others
drawn_tree : (t : Tree) (box : Square) (due : List Square) (nodes : List Node)
    → drawn_in (box ∷ due) (preorder t ++ nodes) ≡ drawn box t ++ drawn_in due nodes
drawn_tree (leaf n is) box due nodes = ap (λ (boxes : List Square). node_text box n ++ drawn_in boxes nodes) (due_after-leaf box due n is)
drawn_tree (split a b c d) box due nodes =
    let first = drawn (child box 0) a in
    let second = drawn (child box 1) b in
    let third = drawn (child box 2) c in
    let fourth = drawn (child box 3) d in
    ap (λ (ns : List Node). drawn_in (children box ++ due) ns) (regroup (preorder a) (preorder b) (preorder c) (preorder d) nodes)
    ∙ drawn_tree a (child box 0) (child box 1 ∷ child box 2 ∷ child box 3 ∷ due) (preorder b ++ (preorder c ++ (preorder d ++ nodes)))
    ∙ ap (λ (text : List ℕ). first ++ text) (drawn_tree b (child box 1) (child box 2 ∷ child box 3 ∷ due) (preorder c ++ (preorder d ++ nodes)))
    ∙ ap (λ (text : List ℕ). first ++ (second ++ text)) (drawn_tree c (child box 2) (child box 3 ∷ due) (preorder d ++ nodes))
    ∙ ap (λ (text : List ℕ). first ++ (second ++ (third ++ text))) (drawn_tree d (child box 3) due nodes)
    ∙ sym (regroup first second third fourth (drawn_in due nodes))

-- the nodes of one whole tree
pub drawn_whole : (t : Tree) (nodes : List Node) → preorder t ≡ nodes → drawn_in (unit_square ∷ []) nodes ≡ drawn unit_square t
drawn_whole t nodes are =
    ap (λ (ns : List Node). drawn_in (unit_square ∷ []) ns) (sym are ∙ sym (append-nil (preorder t)))
    ∙ drawn_tree t unit_square [] [] ∙ append-nil (drawn unit_square t)

-- ---- the next node

not_none : (box : Square) → ¬ (None ≡ Some box)
not_none box same = cc

text_at-first : (due : List Square) (box : Square) (n : Node) → first_of due ≡ Some box → text_at due n ≡ node_text box n
text_at-first [] box n is = absurd (not_none box is)
text_at-first (first ∷ due) box n is =
    let same : first ≡ box = cc in
    ap (λ (b : Square). node_text b n) same

-- with the text of one more node
pub drawn_next : (nodes : List Node) (k : ℕ) (box : Square) → k < length nodes → first_of (due_boxes (take k nodes)) ≡ Some box
    → drawn_in (unit_square ∷ []) (take (k + 1) nodes) ≡ drawn_in (unit_square ∷ []) (take k nodes) ++ node_text box (get_or nodes k Split)
drawn_next nodes k box within first =
    let n = get_or nodes k Split in
    let due = due_boxes (take k nodes) in
    ap (λ (ns : List Node). drawn_in (unit_square ∷ []) ns) (take_more nodes k Split within)
    ∙ drawn_in-append (unit_square ∷ []) (take k nodes) (n ∷ [])
    ∙ ap (λ (text : List ℕ). drawn_in (unit_square ∷ []) (take k nodes) ++ text) (append-nil (text_at due n) ∙ text_at-first due box n first)

-- and with those behind it
drawn_behind : (nodes : List Node) (k : ℕ) (box : Square) → k < length nodes → first_of (due_boxes (take k nodes)) ≡ Some box
    → drawn_in (unit_square ∷ []) nodes ≡ drawn_in (unit_square ∷ []) (take k nodes) ++ (node_text box (get_or nodes k Split)
    ++ drawn_in (due_after (due_boxes (take k nodes)) (get_or nodes k Split)) (drop (suc k) nodes))
drawn_behind nodes k box within first =
    let n = get_or nodes k Split in
    let due = due_boxes (take k nodes) in
    let more = drop (suc k) nodes in
    ap (λ (ns : List Node). drawn_in (unit_square ∷ []) ns) (split_at nodes k Split within)
    ∙ drawn_in-append (unit_square ∷ []) (take k nodes) (n ∷ more)
    ∙ ap (λ (text : List ℕ). drawn_in (unit_square ∷ []) (take k nodes) ++ (text ++ drawn_in (due_after due n) more)) (text_at-first due box n first)

-- a prefix of the text of the next node, behind the texts of those before it
pub drawn_cut : (nodes : List Node) (k : ℕ) (box : Square) (a b c : Option (List ℕ)) → k < length nodes → first_of (due_boxes (take k nodes)) ≡ Some box
    → Appends a b (drawn_in (unit_square ∷ []) (take k nodes)) → AppendsPrefix b c (node_text box (get_or nodes k Split))
    → AppendsPrefix a c (drawn_in (unit_square ∷ []) nodes)
drawn_cut nodes k box a b c within first before cut =
    let n = get_or nodes k Split in
    let behind = drawn_in (due_after (due_boxes (take k nodes)) n) (drop (suc k) nodes) in
    subst (λ (text : List ℕ). AppendsPrefix a c text) (sym (drawn_behind nodes k box within first))
    (AppendsPrefix-then a b c (drawn_in (unit_square ∷ []) (take k nodes)) (node_text box n ++ behind) before
    (AppendsPrefix-begun b c (node_text box n) behind cut))

-- ---- as the walk goes on

-- so many nodes are drawn, and the walk stands after them
pub record AreDrawn (f : TreeFile) (nodes : List Node) (walk : Frontier) (k : ℕ) (old now : Option (List ℕ)) : Type 0 where
  pub is : IsTreeFile MAX_NODES f
  pub all : nodes ≡ f.nodes
  pub depth : walk.depth ≡ f.heading.depth
  pub due : walk.due ≡ due_boxes (take k nodes)
  pub text : Appends old now (drawn_in (unit_square ∷ []) (take k nodes))

some_first : (due : List Square) → due ≢ [] → IsSome (first_of due)
some_first [] some = absurd (some refl)
some_first (box ∷ due) some = refl

-- a box is due
pub next_is_due : (f : TreeFile) (nodes : List Node) (walk : Frontier) (k : ℕ) (old now : Option (List ℕ)) → AreDrawn f nodes walk k old now
    → k < length nodes → IsSome (first_of walk.due)
next_is_due f nodes walk k old now are within =
    let whole : AreWhole nodes = subst AreWhole (are.is.nodes ∙ sym are.all) (tree_is_whole are.is.tree) in
    subst (λ (due : List Square). IsSome (first_of due)) (sym are.due) (some_first (due_boxes (take k nodes)) (whole.due k within))

first_here : (f : TreeFile) (nodes : List Node) (walk : Frontier) (k : ℕ) (old now : Option (List ℕ)) (box : Square) → AreDrawn f nodes walk k old now
    → first_of walk.due ≡ Some box → first_of (due_boxes (take k nodes)) ≡ Some box
first_here f nodes walk k old now box are first = ap first_of (sym are.due) ∙ first

-- the first due box, and the others
record FirstDue (due : List Square) (box : Square) : Type 0 where
  others : List Square
  are : due ≡ box ∷ others

first_due : (due : List Square) (box : Square) → first_of due ≡ Some box → FirstDue due box
first_due [] box is = absurd (not_none box is)
first_due (first ∷ others) box is =
    let same : first ≡ box = cc in
    record { others = others; are = ap (λ (b : Square). b ∷ others) same }

-- and the next node stands there in the tree
next_stands : (f : TreeFile) (nodes : List Node) (k : ℕ) (box : Square) → (is : IsTreeFile MAX_NODES f) → nodes ≡ f.nodes → k < length nodes
    → first_of (due_boxes (take k nodes)) ≡ Some box → StandsAt unit_square is.tree box (get_or nodes k Split)
next_stands f nodes k box is all within first =
    let n = get_or nodes k Split in
    let at = first_due (due_boxes (take k nodes)) box first in
    let stands = stands_next (take k nodes) (unit_square ∷ []) n (drop (suc k) nodes) box at.others at.are in
    list_to_tree is.tree box n (subst (λ (ns : List Node). StandsIn (unit_square ∷ []) ns box n)
    (sym (split_at nodes k Split within) ∙ all ∙ sym is.nodes) stands)

-- a split is above the full depth
pub may_step : (f : TreeFile) (nodes : List Node) (walk : Frontier) (k : ℕ) (old now : Option (List ℕ)) (box : Square) → AreDrawn f nodes walk k old now
    → k < length nodes → first_of walk.due ≡ Some box
    → IsSomeAnd (first_of walk.due) (λ b. get_or nodes k Split ≡ Split → b.level < walk.depth)
may_step f nodes walk k old now box are within first =
    let n = get_or nodes k Split in
    let stands = next_stands f nodes k box are.is are.all within (first_here f nodes walk k old now box are first) in
    let level : HasLevelFor f.heading box n = are.is.is_tree.levels box n stands in
    let above : n ≡ Split → box.level < walk.depth =
    λ split. subst (λ (d : ℕ). box.level < d) (sym are.depth) (subst (λ (m : Node). HasLevelFor f.heading box m) split level) in
    subst (λ (due : Option Square). IsSomeAnd due (λ b. n ≡ Split → b.level < walk.depth)) (sym first) above

nothing : (old : Option (List ℕ)) → Appends old old []
nothing None = tt
nothing (Some xs) = sym (append-nil xs)

-- before the first node
pub none_drawn : (f : TreeFile) (nodes : List Node) (walk : Frontier) (old : Option (List ℕ)) → IsTreeFile MAX_NODES f → nodes ≡ f.nodes
    → walk.depth ≡ f.heading.depth → walk.due ≡ unit_square ∷ [] → AreDrawn f nodes walk 0 old old
none_drawn f nodes walk old is all depth due = record { is = is; all = all; depth = depth; due = due; text = nothing old }

-- with the next one
pub one_more : (f : TreeFile) (nodes : List Node) (walk walk' : Frontier) (k : ℕ) (box : Square) (old now new : Option (List ℕ))
    → AreDrawn f nodes walk k old now → k < length nodes → first_of walk.due ≡ Some box
    → walk' ≡ record { depth = walk.depth; due = due_after walk.due (get_or nodes k Split) }
    → Appends now new (node_text box (get_or nodes k Split)) → AreDrawn f nodes walk' (k + 1) old new
one_more f nodes walk walk' k box old now new are within first goes text =
    let n = get_or nodes k Split in
    let here = first_here f nodes walk k old now box are first in
    let due_is : due_boxes (take (k + 1) nodes) ≡ due_after (due_boxes (take k nodes)) n =
    ap due_boxes (take_more nodes k Split within) ∙ fold-append due_after (unit_square ∷ []) (take k nodes) (n ∷ []) in
    record {
      is = are.is;
      all = are.all;
      depth = ap (λ (w : Frontier). w.depth) goes ∙ are.depth;
      due = ap (λ (w : Frontier). w.due) goes ∙ ap (λ (boxes : List Square). due_after boxes n) are.due ∙ sym due_is;
      text =
          subst (λ (t : List ℕ). Appends old new t) (sym (drawn_next nodes k box within here))
          (Appends-trans old now new (drawn_in (unit_square ∷ []) (take k nodes)) (node_text box n) are.text text);
    }

-- where the next one is cut
pub cut_in_next : (f : TreeFile) (nodes : List Node) (walk : Frontier) (k : ℕ) (box : Square) (old now new : Option (List ℕ)) (t : Tree)
    → AreDrawn f nodes walk k old now → k < length nodes → first_of walk.due ≡ Some box → preorder t ≡ f.nodes
    → AppendsPrefix now new (node_text box (get_or nodes k Split)) → AppendsPrefix old new (drawn unit_square t)
cut_in_next f nodes walk k box old now new t are within first is cut =
    subst (λ (text : List ℕ). AppendsPrefix old new text) (drawn_whole t nodes (is ∙ sym are.all))
    (drawn_cut nodes k box old now new within (first_here f nodes walk k old now box are first) are.text cut)

-- and after the last one
pub all_drawn : (f : TreeFile) (nodes : List Node) (walk : Frontier) (k : ℕ) (old now : Option (List ℕ)) (t : Tree) → AreDrawn f nodes walk k old now
    → take k nodes ≡ nodes → preorder t ≡ f.nodes → Appends old now (drawn unit_square t)
all_drawn f nodes walk k old now t are last is =
    subst (λ (text : List ℕ). Appends old now text)
    (ap (λ (ns : List Node). drawn_in (unit_square ∷ []) ns) last ∙ drawn_whole t nodes (is ∙ sym are.all)) are.text
