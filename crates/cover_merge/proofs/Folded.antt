-- The fold of a tree, from the folds of its parts.
use Rattle.std.proofs.Common.{◌≡◌, ◌↔◌, inl, inr, refl, sym, ap, ◌∙◌, subst, ℕ, ◌+◌, ◌<◌, ◌≤◌, Bool}
use Rattle.std.proofs.Common.{true, false, List, [], ◌∷◌, ◌++◌, length, take, drop, get_or, arith, length-append}
use Rattle.std.proofs.lemmas.List.{append-nil, append_assoc, take_at}
use Rattle.rational_polygon.specs.Square.{Square, child}
use Rattle.rational_polygon.specs.declared.TheConstants.{MAX_LEVEL}
use Rattle.covering_file.specs.declared.node.Node.{Node}
use Rattle.covering_file.specs.declared.node.Node.TheVariants.{Split, Shown}
use Rattle.covering_file.specs.Node.{IsLeaf}
use Rattle.covering_file.specs.Tree.{Tree, leaf, split, preorder}
use Rattle.cover_merge.specs.declared.folding.Part.{Part}
use Rattle.cover_merge.specs.Fold.{IsShownLeaf, AreShown, IsJoined, IsFold}
use Rattle.cover_merge.specs.Parts.{size, SplitsAbove, StandsFrom, FoldsPart, FoldsFrom, Joins}
use Rattle.cover_merge.proofs.Listed.{leaf_ahead, split_ahead, behind, node_at, starts_within}
use Rattle.cover_merge.proofs.Sizes.{size_split}

-- ---- a leaf is its own fold

one_leaf : (words : List (List ℕ)) (box : Square) (nodes : List Node) (start : ℕ) (n : Node) (part : Part) (old new : List Node) → IsLeaf n
    → drop start nodes ≡ n ∷ drop (start + 1) nodes → new ≡ old ++ n ∷ [] → part.end ≡ start + 1
    → ((is : IsLeaf n) → part.is_shown ≡ true ↔ IsShownLeaf (leaf n is)) → (t : Tree) → StandsFrom nodes start t → FoldsPart words box start t part old new
one_leaf words box nodes start n part old new is head pushed end shown t stands =
    let l = leaf_ahead n (drop (start + 1) nodes) t stands.0 is (sym head ∙ stands.1) in
    record {
      tree = t;
      fold = subst (λ (u : Tree). IsFold words box u u) (sym l.tree) refl;
      nodes = pushed ∙ ap (λ (u : Tree). old ++ preorder u) (sym l.tree);
      end = end ∙ ap (λ (u : Tree). start + size u) (sym l.tree);
      shown = subst (λ (u : Tree). part.is_shown ≡ true ↔ IsShownLeaf u) (sym l.tree) (shown l.leaf_is);
    }

pub not_both : (b : Bool) → b ≡ false → ¬ (b ≡ true)
not_both b is_false is_true =
    let both : false ≡ true = sym is_false ∙ is_true in
    cc

pub shown_leaf : (words : List (List ℕ)) (box : Square) (nodes : List Node) (start i : ℕ) (part : Part) (old new : List Node)
    → drop start nodes ≡ Shown i ∷ drop (start + 1) nodes → new ≡ old ++ Shown i ∷ [] → part.end ≡ start + 1 → part.is_shown ≡ true
    → (t : Tree) → StandsFrom nodes start t → FoldsPart words box start t part old new
shown_leaf words box nodes start i part old new head pushed end shown =
    one_leaf words box nodes start (Shown i) part old new tt head pushed end (λ is. (λ e. tt, λ e. shown))

no_shown_leaf : (n : Node) (is : IsLeaf n) → ((i : ℕ) → ¬ (n ≡ Shown i)) → ¬ (IsShownLeaf (leaf n is))
no_shown_leaf (Shown i) is not shown = not i refl
no_shown_leaf n is not shown = shown

pub other_leaf : (words : List (List ℕ)) (box : Square) (nodes : List Node) (start : ℕ) (n : Node) (part : Part) (old new : List Node) → IsLeaf n
    → ((i : ℕ) → ¬ (n ≡ Shown i)) → drop start nodes ≡ n ∷ drop (start + 1) nodes → new ≡ old ++ n ∷ [] → part.end ≡ start + 1
    → part.is_shown ≡ false → (t : Tree) → StandsFrom nodes start t → FoldsPart words box start t part old new
other_leaf words box nodes start n part old new is not head pushed end shown =
    one_leaf words box nodes start n part old new is head pushed end
    (λ leaf_is. (λ e. absurd (not_both part.is_shown shown e), λ e. absurd (no_shown_leaf n leaf_is not e)))

-- ---- the parts of a split, one after another

-- a tree stands here that fits below the box
abbrev pub IsTreeAt : List Node → ℕ → Square → Type 0
IsTreeAt nodes start box = (t : Tree) × StandsFrom nodes start t × SplitsAbove MAX_LEVEL box t

-- the part of a tree ends there
abbrev pub EndsAt : List Node → ℕ → ℕ → Type 0
EndsAt nodes start end = (t : Tree) → StandsFrom nodes start t → end ≡ start + size t

-- the trees of four boxes stand one after another
record FourAhead (nodes : List Node) (start : ℕ) (box : Square) : Type 0 where
  a : Tree
  b : Tree
  c : Tree
  d : Tree
  rest : List Node
  list : drop (start + 1) nodes ≡ preorder a ++ (preorder b ++ (preorder c ++ (preorder d ++ rest)))
  above : SplitsAbove MAX_LEVEL box (split a b c d)

four_ahead : (nodes : List Node) (start : ℕ) (box : Square) → drop start nodes ≡ Split ∷ drop (start + 1) nodes → IsTreeAt nodes start box
    → FourAhead nodes start box
four_ahead nodes start box head at =
    let q = split_ahead (drop (start + 1) nodes) at.0 at.1.0 (sym head ∙ at.1.1) in
    record { a = q.a; b = q.b; c = q.c; d = q.d; rest = at.1.0; list = q.list; above = subst (λ (t : Tree). SplitsAbove MAX_LEVEL box t) q.tree at.2 }

-- a split that stands fits below its box
pub split_above : (nodes : List Node) (start : ℕ) (box : Square) → drop start nodes ≡ Split ∷ drop (start + 1) nodes → IsTreeAt nodes start box
    → box.level < MAX_LEVEL
split_above nodes start box head at =
    let q = four_ahead nodes start box head at in
    q.above box (inl (refl, refl))

pub first_part : (nodes : List Node) (start : ℕ) (box : Square) → drop start nodes ≡ Split ∷ drop (start + 1) nodes → IsTreeAt nodes start box
    → IsTreeAt nodes (start + 1) (child box 0)
first_part nodes start box head at =
    let q = four_ahead nodes start box head at in
    (q.a, (preorder q.b ++ (preorder q.c ++ (preorder q.d ++ q.rest)), q.list), λ inner stands. q.above inner (inr (inl stands)))

pub second_part : (nodes : List Node) (start end_a : ℕ) (box : Square) → drop start nodes ≡ Split ∷ drop (start + 1) nodes → EndsAt nodes (start + 1) end_a
    → IsTreeAt nodes start box → IsTreeAt nodes end_a (child box 1)
second_part nodes start end_a box head ends_a at =
    let q = four_ahead nodes start box head at in
    let from_c = preorder q.c ++ (preorder q.d ++ q.rest) in
    let at_b = behind nodes (start + 1) end_a q.a (preorder q.b ++ from_c) q.list (ends_a q.a (preorder q.b ++ from_c, q.list)) in
    (q.b, (from_c, at_b), λ inner stands. q.above inner (inr (inr (inl stands))))

pub third_part : (nodes : List Node) (start end_a end_b : ℕ) (box : Square) → drop start nodes ≡ Split ∷ drop (start + 1) nodes
    → EndsAt nodes (start + 1) end_a → EndsAt nodes end_a end_b → IsTreeAt nodes start box → IsTreeAt nodes end_b (child box 2)
third_part nodes start end_a end_b box head ends_a ends_b at =
    let q = four_ahead nodes start box head at in
    let from_d = preorder q.d ++ q.rest in
    let from_c = preorder q.c ++ from_d in
    let at_b = behind nodes (start + 1) end_a q.a (preorder q.b ++ from_c) q.list (ends_a q.a (preorder q.b ++ from_c, q.list)) in
    let at_c = behind nodes end_a end_b q.b from_c at_b (ends_b q.b (from_c, at_b)) in
    (q.c, (from_d, at_c), λ inner stands. q.above inner (inr (inr (inr (inl stands)))))

pub fourth_part : (nodes : List Node) (start end_a end_b end_c : ℕ) (box : Square) → drop start nodes ≡ Split ∷ drop (start + 1) nodes
    → EndsAt nodes (start + 1) end_a → EndsAt nodes end_a end_b → EndsAt nodes end_b end_c → IsTreeAt nodes start box
    → IsTreeAt nodes end_c (child box 3)
fourth_part nodes start end_a end_b end_c box head ends_a ends_b ends_c at =
    let q = four_ahead nodes start box head at in
    let from_d = preorder q.d ++ q.rest in
    let from_c = preorder q.c ++ from_d in
    let at_b = behind nodes (start + 1) end_a q.a (preorder q.b ++ from_c) q.list (ends_a q.a (preorder q.b ++ from_c, q.list)) in
    let at_c = behind nodes end_a end_b q.b from_c at_b (ends_b q.b (from_c, at_b)) in
    let at_d = behind nodes end_b end_c q.c from_d at_c (ends_c q.c (from_d, at_c)) in
    (q.d, (q.rest, at_d), λ inner stands. q.above inner (inr (inr (inr (inr stands)))))

-- ---- the fold of a split

-- the same by words and on a box that are these
abbrev pub FoldsOn : List (List ℕ) → Square → List Node → ℕ → Part → List Node → List Node → Type 0
FoldsOn words box nodes start part old new =
    (ws : List (List ℕ)) × (at : Square) × (ws ≡ words) × (at ≡ box) × FoldsFrom ws at nodes start part old new

folds_on : (words : List (List ℕ)) (box : Square) (nodes : List Node) (start : ℕ) (part : Part) (old new : List Node)
    → FoldsOn words box nodes start part old new → FoldsFrom words box nodes start part old new
folds_on words box nodes start part old new (ws, at, same_words, same_box, folds) =
    subst (λ (b : Square). FoldsFrom words b nodes start part old new) same_box
    (subst (λ (vs : List (List ℕ)). FoldsFrom vs at nodes start part old new) same_words folds)

-- the folds of the four parts were put behind the nodes
pub record FourFolds (words : List (List ℕ)) (box : Square) (start : ℕ) (t : Tree) (p q r s : Part) (old new : List Node) : Type 0 where
  pub a : Tree
  pub b : Tree
  pub c : Tree
  pub d : Tree
  pub e : Tree
  pub f : Tree
  pub g : Tree
  pub h : Tree
  pub tree : t ≡ split a b c d
  pub fold_a : IsFold words (child box 0) a e
  pub fold_b : IsFold words (child box 1) b f
  pub fold_c : IsFold words (child box 2) c g
  pub fold_d : IsFold words (child box 3) d h
  pub shown_a : p.is_shown ≡ true ↔ IsShownLeaf e
  pub shown_b : q.is_shown ≡ true ↔ IsShownLeaf f
  pub shown_c : r.is_shown ≡ true ↔ IsShownLeaf g
  pub shown_d : s.is_shown ≡ true ↔ IsShownLeaf h
  pub nodes : new ≡ old ++ preorder (split e f g h)
  pub end : s.end ≡ start + size t

put_behind : (old at_a at_b at_c at_d at_e : List Node) (e f g h : Tree) → at_a ≡ old ++ Split ∷ [] → at_b ≡ at_a ++ preorder e → at_c ≡ at_b ++ preorder f
    → at_d ≡ at_c ++ preorder g → at_e ≡ at_d ++ preorder h → at_e ≡ old ++ preorder (split e f g h)
put_behind old at_a at_b at_c at_d at_e e f g h is_a is_b is_c is_d is_e =
    let flat : ((((old ++ Split ∷ []) ++ preorder e) ++ preorder f) ++ preorder g) ++ preorder h ≡ old ++ preorder (split e f g h) = simp append_assoc in
    is_e ∙ ap (λ (ns : List Node). ns ++ preorder h) is_d ∙ ap (λ (ns : List Node). (ns ++ preorder g) ++ preorder h) is_c
    ∙ ap (λ (ns : List Node). ((ns ++ preorder f) ++ preorder g) ++ preorder h) is_b
    ∙ ap (λ (ns : List Node). (((ns ++ preorder e) ++ preorder f) ++ preorder g) ++ preorder h) is_a ∙ flat

pub four_folds : (words : List (List ℕ)) (box : Square) (nodes : List Node) (start : ℕ) (p q r s : Part) (old at_a at_b at_c at_d at_e : List Node)
    → drop start nodes ≡ Split ∷ drop (start + 1) nodes → at_a ≡ old ++ Split ∷ [] → FoldsOn words (child box 0) nodes (start + 1) p at_a at_b
    → FoldsOn words (child box 1) nodes p.end q at_b at_c → FoldsOn words (child box 2) nodes q.end r at_c at_d
    → FoldsOn words (child box 3) nodes r.end s at_d at_e → (t : Tree) → StandsFrom nodes start t → FourFolds words box start t p q r s old at_e
four_folds words box nodes start p q r s old at_a at_b at_c at_d at_e head pushed part_a part_b part_c part_d t stands =
    let x = split_ahead (drop (start + 1) nodes) t stands.0 (sym head ∙ stands.1) in
    let from_d = preorder x.d ++ stands.0 in
    let from_c = preorder x.c ++ from_d in
    let from_b = preorder x.b ++ from_c in
    let of_a = folds_on words (child box 0) nodes (start + 1) p at_a at_b part_a x.a (from_b, x.list) in
    let list_b = behind nodes (start + 1) p.end x.a from_b x.list of_a.end in
    let of_b = folds_on words (child box 1) nodes p.end q at_b at_c part_b x.b (from_c, list_b) in
    let list_c = behind nodes p.end q.end x.b from_c list_b of_b.end in
    let of_c = folds_on words (child box 2) nodes q.end r at_c at_d part_c x.c (from_d, list_c) in
    let list_d = behind nodes q.end r.end x.c from_d list_c of_c.end in
    let of_d = folds_on words (child box 3) nodes r.end s at_d at_e part_d x.d (stands.0, list_d) in
    record {
      a = x.a;
      b = x.b;
      c = x.c;
      d = x.d;
      e = of_a.tree;
      f = of_b.tree;
      g = of_c.tree;
      h = of_d.tree;
      tree = x.tree;
      fold_a = of_a.fold;
      fold_b = of_b.fold;
      fold_c = of_c.fold;
      fold_d = of_d.fold;
      shown_a = of_a.shown;
      shown_b = of_b.shown;
      shown_c = of_c.shown;
      shown_d = of_d.shown;
      nodes = put_behind old at_a at_b at_c at_d at_e of_a.tree of_b.tree of_c.tree of_d.tree pushed of_a.nodes of_b.nodes of_c.nodes of_d.nodes;
      end =
          omega (arith, of_a.end, of_b.end, of_c.end, of_d.end, size_split x.a x.b x.c x.d, ap (λ (u : Tree). size u) x.tree);
    }

-- their fold, by what becomes of the four
joined : (words : List (List ℕ)) (box : Square) (start : ℕ) (t : Tree) (p q r s part : Part) (old mid new : List Node)
    (u : FourFolds words box start t p q r s old mid) (tree : Tree) → IsJoined words box u.e u.f u.g u.h tree → new ≡ old ++ preorder tree
    → part.end ≡ s.end → part.is_shown ≡ true ↔ IsShownLeaf tree → FoldsPart words box start t part old new
joined words box start t p q r s part old mid new u tree is nodes end shown =
    let fold : IsFold words box (split u.a u.b u.c u.d) tree = (u.e, u.f, u.g, u.h, u.fold_a, u.fold_b, u.fold_c, u.fold_d, is) in
    record {
      tree = tree;
      fold = subst (λ (v : Tree). IsFold words box v tree) (sym u.tree) fold;
      nodes = nodes;
      end = end ∙ u.end;
      shown = shown;
    }

-- they are not all shown
pub stays_apart : (words : List (List ℕ)) (box : Square) (start : ℕ) (t : Tree) (p q r s part : Part) (old new : List Node)
    → ¬ ((p.is_shown ≡ true) × (q.is_shown ≡ true) × (r.is_shown ≡ true) × (s.is_shown ≡ true)) → part.end ≡ s.end → part.is_shown ≡ false
    → FourFolds words box start t p q r s old new → FoldsPart words box start t part old new
stays_apart words box start t p q r s part old new not end shown u =
    let apart : ¬ (AreShown u.e u.f u.g u.h) = λ all. not (u.shown_a.1 all.0, u.shown_b.1 all.1, u.shown_c.1 all.2, u.shown_d.1 all.3) in
    joined words box start t p q r s part old new new u (split u.e u.f u.g u.h) (inl (refl, inl apart)) u.nodes end
    (λ e. absurd (not_both part.is_shown shown e), λ e. absurd e)

-- they are, and so it is as the words say
pub may_join : (words : List (List ℕ)) (box : Square) (start at : ℕ) (t : Tree) (p q r s part : Part) (old mid new : List Node) (is_joined : Bool)
    → (p.is_shown ≡ true) × (q.is_shown ≡ true) × (r.is_shown ≡ true) × (s.is_shown ≡ true) → part.end ≡ s.end → part.is_shown ≡ is_joined
    → length old ≡ at → Joins words box at is_joined mid new → FourFolds words box start t p q r s old mid → FoldsPart words box start t part old new
may_join words box start at t p q r s part old mid new true all end shown is_at joins u =
    let cut : take at mid ≡ old = ap (λ (ns : List Node). take at ns) u.nodes ∙ take_at old (preorder (split u.e u.f u.g u.h)) at is_at in
    let are : AreShown u.e u.f u.g u.h = (u.shown_a.0 all.0, u.shown_b.0 all.1, u.shown_c.0 all.2, u.shown_d.0 all.3) in
    joined words box start t p q r s part old mid new u (leaf (Shown joins.0) tt) (inr (are, (joins.0, refl, joins.1)))
    (joins.2 ∙ ap (λ (ns : List Node). ns ++ Shown joins.0 ∷ []) cut) end (λ e. tt, λ e. shown)
may_join words box start at t p q r s part old mid new false all end shown is_at joins u =
    joined words box start t p q r s part old mid new u (split u.e u.f u.g u.h) (inl (refl, inr joins.0)) (joins.1 ∙ u.nodes) end
    (λ e. absurd (not_both part.is_shown shown e), λ e. absurd e)

-- a tree that has these nodes stands from the first on
pub whole_stands : (nodes : List Node) (t : Tree) → preorder t ≡ nodes → StandsFrom nodes 0 t
whole_stands nodes t is = ([], sym is ∙ sym (append-nil (preorder t)))

-- a split that stands is the first of its nodes
pub split_head : (nodes : List Node) (start : ℕ) (box : Square) → get_or nodes start Split ≡ Split → IsTreeAt nodes start box
    → drop start nodes ≡ Split ∷ drop (start + 1) nodes
split_head nodes start box is at = node_at nodes start Split (starts_within nodes start at.0 at.1) is

-- the fold of a split was put behind the nodes that were
pub longer : (words : List (List ℕ)) (box : Square) (start : ℕ) (t : Tree) (p q r s : Part) (old new : List Node)
    → FourFolds words box start t p q r s old new → length old ≤ length new
longer words box start t p q r s old new u =
    omega (arith, ap (λ (ns : List Node). length ns) u.nodes, length-append old (preorder (split u.e u.f u.g u.h)))
