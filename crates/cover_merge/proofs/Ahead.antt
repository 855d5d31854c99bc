-- The pairs of trees that are still to be laid over each other, as one goes on.
use Rattle.std.proofs.Common.{◌≡◌, ◌⊎◌, inl, inr, refl, sym, ap, ◌∙◌, subst, ◌+◌, ◌≤◌, List, [], ◌∷◌, ◌++◌, length, drop}
use Rattle.std.proofs.lemmas.List.{append-nil, append_assoc, drop_all}
use Rattle.covering_file.specs.declared.node.Node.{Node}
use Rattle.covering_file.specs.declared.node.Node.TheVariants.{Split, Uncovered}
use Rattle.covering_file.specs.Node.{IsLeaf}
use Rattle.covering_file.specs.Tree.{Tree, leaf, split, preorder}
use Rattle.covering_file.proofs.Trees.{regroup}
use Rattle.cover_merge.specs.declared.overlaying.Place.{Place}
use Rattle.cover_merge.specs.Overlay.{overlay}
use Rattle.cover_merge.specs.Parts.{size, StandsFrom}
use Rattle.cover_merge.specs.Pairs.{firsts, seconds, overlaid, PairsAhead}
use Rattle.cover_merge.proofs.Listed.{some_node, leaf_ahead, split_ahead, behind}

-- the first pair, and the others
record FirstPair (first second : List Node) (at : Place) (written whole : List Node) : Type 0 where
  s : Tree
  t : Tree
  pairs : List (Tree × Tree)
  from_first : drop at.first first ≡ preorder s ++ firsts pairs
  from_second : drop at.second second ≡ preorder t ++ seconds pairs
  to_whole : written ++ (preorder (overlay s t) ++ overlaid pairs) ≡ whole

no_pair : (n : Node) (list : List Node) → ¬ (n ∷ list ≡ [])
no_pair n list same = cc

of_pairs : (pairs : List (Tree × Tree)) (first second : List Node) (at : Place) (written whole : List Node) (n : Node) (list : List Node)
    → drop at.first first ≡ n ∷ list → drop at.first first ≡ firsts pairs → drop at.second second ≡ seconds pairs → written ++ overlaid pairs ≡ whole
    → FirstPair first second at written whole
of_pairs [] first second at written whole n list some from_first from_second to_whole = absurd (no_pair n list (sym some ∙ from_first))
of_pairs (p ∷ pairs) first second at written whole n list some from_first from_second to_whole = record {
  s = p.0;
  t = p.1;
  pairs = pairs;
  from_first = from_first;
  from_second = from_second;
  to_whole = to_whole;
}

first_pair : (first second : List Node) (at : Place) (written whole : List Node) (n : Node) (list : List Node) → drop at.first first ≡ n ∷ list
    → PairsAhead first second at written whole → FirstPair first second at written whole
first_pair first second at written whole n list some ahead =
    of_pairs ahead.pairs first second at written whole n list some ahead.from_first ahead.from_second ahead.to_whole

-- the overlay of the first pair is written
pair_taken : (first second : List Node) (at next : Place) (written new whole : List Node) (f : FirstPair first second at written whole)
    → drop next.first first ≡ firsts f.pairs → drop next.second second ≡ seconds f.pairs → new ≡ written ++ preorder (overlay f.s f.t)
    → PairsAhead first second next new whole
pair_taken first second at next written new whole f from_first from_second is = record {
  pairs = f.pairs;
  from_first = from_first;
  from_second = from_second;
  to_whole =
      ap (λ (ns : List Node). ns ++ overlaid f.pairs) is ∙ append_assoc written (preorder (overlay f.s f.t)) (overlaid f.pairs) ∙ f.to_whole;
}

-- ---- by the nodes at the place

-- the first tree leaves its box uncovered: the second tree's nodes are copied
pub open_first : (first second : List Node) (at next : Place) (written new whole : List Node)
    → drop at.first first ≡ Uncovered ∷ drop (at.first + 1) first → next.first ≡ at.first + 1
    → ((t : Tree) → StandsFrom second at.second t → next.second ≡ at.second + size t)
    → ((t : Tree) → StandsFrom second at.second t → new ≡ written ++ preorder t) → PairsAhead first second at written whole
    → PairsAhead first second next new whole
open_first first second at next written new whole head next_is passed copied ahead =
    let f = first_pair first second at written whole Uncovered (drop (at.first + 1) first) head ahead in
    let l = leaf_ahead Uncovered (drop (at.first + 1) first) f.s (firsts f.pairs) tt (sym head ∙ f.from_first) in
    let stands : StandsFrom second at.second f.t = (seconds f.pairs, f.from_second) in
    pair_taken first second at next written new whole f (ap (λ k. drop k first) next_is ∙ l.list)
    (behind second at.second next.second f.t (seconds f.pairs) f.from_second (passed f.t stands))
    (copied f.t stands ∙ ap (λ (s : Tree). written ++ preorder (overlay s f.t)) (sym l.tree))

stands_before : (n : Node) (is : IsLeaf n) (t : Tree) → ¬ (n ≡ Uncovered) → overlay (leaf n is) t ≡ leaf n is
stands_before Uncovered is t covered = absurd (covered refl)
stands_before n is t covered = refl

-- the first tree is another leaf, which stands
pub leaf_first : (first second : List Node) (at next : Place) (written new whole : List Node) (n : Node) → IsLeaf n → ¬ (n ≡ Uncovered)
    → drop at.first first ≡ n ∷ drop (at.first + 1) first → next.first ≡ at.first + 1
    → ((t : Tree) → StandsFrom second at.second t → next.second ≡ at.second + size t) → new ≡ written ++ n ∷ []
    → PairsAhead first second at written whole → PairsAhead first second next new whole
leaf_first first second at next written new whole n is covered head next_is passed pushed ahead =
    let f = first_pair first second at written whole n (drop (at.first + 1) first) head ahead in
    let l = leaf_ahead n (drop (at.first + 1) first) f.s (firsts f.pairs) is (sym head ∙ f.from_first) in
    let stays : overlay f.s f.t ≡ leaf n l.leaf_is = ap (λ (s : Tree). overlay s f.t) l.tree ∙ stands_before n l.leaf_is f.t covered in
    pair_taken first second at next written new whole f (ap (λ k. drop k first) next_is ∙ l.list)
    (behind second at.second next.second f.t (seconds f.pairs) f.from_second (passed f.t (seconds f.pairs, f.from_second)))
    (pushed ∙ ap (λ (t : Tree). written ++ preorder t) (sym stays))

-- the second tree leaves the box of a split uncovered: the first tree's nodes are copied
pub open_second : (first second : List Node) (at next : Place) (written new whole : List Node) (list : List Node)
    → drop at.first first ≡ Split ∷ list → drop at.second second ≡ Uncovered ∷ drop (at.second + 1) second → next.second ≡ at.second + 1
    → ((t : Tree) → StandsFrom first at.first t → next.first ≡ at.first + size t)
    → ((t : Tree) → StandsFrom first at.first t → new ≡ written ++ preorder t) → PairsAhead first second at written whole
    → PairsAhead first second next new whole
open_second first second at next written new whole list head other next_is passed copied ahead =
    let f = first_pair first second at written whole Split list head ahead in
    let q = split_ahead list f.s (firsts f.pairs) (sym head ∙ f.from_first) in
    let l = leaf_ahead Uncovered (drop (at.second + 1) second) f.t (seconds f.pairs) tt (sym other ∙ f.from_second) in
    let stands : StandsFrom first at.first f.s = (firsts f.pairs, f.from_first) in
    let stays : overlay f.s f.t ≡ f.s =
    ap (λ (s : Tree). overlay s f.t) q.tree ∙ ap (λ (t : Tree). overlay (split q.a q.b q.c q.d) t) l.tree ∙ sym q.tree in
    pair_taken first second at next written new whole f (behind first at.first next.first f.s (firsts f.pairs) f.from_first (passed f.s stands))
    (ap (λ k. drop k second) next_is ∙ l.list) (copied f.s stands ∙ ap (λ (t : Tree). written ++ preorder t) (sym stays))

stands_over : (a b c d : Tree) (n : Node) (is : IsLeaf n) → ¬ (n ≡ Uncovered) → overlay (split a b c d) (leaf n is) ≡ leaf n is
stands_over a b c d Uncovered is covered = absurd (covered refl)
stands_over a b c d n is covered = refl

-- the second tree is another leaf, which stands over the split
pub leaf_second : (first second : List Node) (at next : Place) (written new whole : List Node) (list : List Node) (n : Node) → IsLeaf n
    → ¬ (n ≡ Uncovered) → drop at.first first ≡ Split ∷ list → drop at.second second ≡ n ∷ drop (at.second + 1) second
    → next.second ≡ at.second + 1 → ((t : Tree) → StandsFrom first at.first t → next.first ≡ at.first + size t) → new ≡ written ++ n ∷ []
    → PairsAhead first second at written whole → PairsAhead first second next new whole
leaf_second first second at next written new whole list n is covered head other next_is passed pushed ahead =
    let f = first_pair first second at written whole Split list head ahead in
    let q = split_ahead list f.s (firsts f.pairs) (sym head ∙ f.from_first) in
    let l = leaf_ahead n (drop (at.second + 1) second) f.t (seconds f.pairs) is (sym other ∙ f.from_second) in
    let stays : overlay f.s f.t ≡ leaf n l.leaf_is =
    ap (λ (s : Tree). overlay s f.t) q.tree ∙ ap (λ (t : Tree). overlay (split q.a q.b q.c q.d) t) l.tree
    ∙ stands_over q.a q.b q.c q.d n l.leaf_is covered in
    pair_taken first second at next written new whole f
    (behind first at.first next.first f.s (firsts f.pairs) f.from_first (passed f.s (firsts f.pairs, f.from_first)))
    (ap (λ k. drop k second) next_is ∙ l.list) (pushed ∙ ap (λ (t : Tree). written ++ preorder t) (sym stays))

-- a split is written, and its parts are to follow
four_written : (written new whole : List Node) (a b c d : Tree) (rest : List Node) → new ≡ written ++ Split ∷ []
    → written ++ (preorder (split a b c d) ++ rest) ≡ whole
    → new ++ (preorder a ++ (preorder b ++ (preorder c ++ (preorder d ++ rest)))) ≡ whole
four_written written new whole a b c d rest pushed is =
    let parts = preorder a ++ (preorder b ++ (preorder c ++ (preorder d ++ rest))) in
    ap (λ (ns : List Node). ns ++ parts) pushed ∙ append_assoc written (Split ∷ []) parts
    ∙ ap (λ (ns : List Node). written ++ (Split ∷ ns)) (sym (regroup (preorder a) (preorder b) (preorder c) (preorder d) rest)) ∙ is

-- both are splits, and their parts are laid over each other
pub both_split : (first second : List Node) (at next : Place) (written new whole : List Node) (list : List Node)
    → drop at.first first ≡ Split ∷ list → drop at.second second ≡ Split ∷ drop (at.second + 1) second
    → drop next.first first ≡ list → next.second ≡ at.second + 1 → new ≡ written ++ Split ∷ []
    → PairsAhead first second at written whole → PairsAhead first second next new whole
both_split first second at next written new whole list head other next_first next_second pushed ahead =
    let f = first_pair first second at written whole Split list head ahead in
    let q = split_ahead list f.s (firsts f.pairs) (sym head ∙ f.from_first) in
    let r = split_ahead (drop (at.second + 1) second) f.t (seconds f.pairs) (sym other ∙ f.from_second) in
    let parts = split (overlay q.a r.a) (overlay q.b r.b) (overlay q.c r.c) (overlay q.d r.d) in
    let is : overlay f.s f.t ≡ parts = ap (λ (s : Tree). overlay s f.t) q.tree ∙ ap (λ (t : Tree). overlay (split q.a q.b q.c q.d) t) r.tree in
    let pairs : List (Tree × Tree) = (q.a, r.a) ∷ (q.b, r.b) ∷ (q.c, r.c) ∷ (q.d, r.d) ∷ f.pairs in
    record {
      pairs = pairs;
      from_first = next_first ∙ q.list;
      from_second = ap (λ k. drop k second) next_second ∙ r.list;
      to_whole =
          four_written written new whole (overlay q.a r.a) (overlay q.b r.b) (overlay q.c r.c) (overlay q.d r.d) (overlaid f.pairs) pushed
          (subst (λ (t : Tree). written ++ (preorder t ++ overlaid f.pairs) ≡ whole) is f.to_whole);
    }

-- ---- the beginning and the end

pub pairs_first : (first second : List Node) (s t : Tree) → preorder s ≡ first → preorder t ≡ second
    → PairsAhead first second (record { first = 0; second = 0 }) [] (preorder (overlay s t))
pairs_first first second s t of_s of_t = record {
  pairs = (s, t) ∷ [];
  from_first = sym of_s ∙ sym (append-nil (preorder s));
  from_second = sym of_t ∙ sym (append-nil (preorder t));
  to_whole = append-nil (preorder (overlay s t));
}

none_ahead : (pairs : List (Tree × Tree)) (first second : List Node) (at : Place) (written whole : List Node) → drop at.first first ≡ firsts pairs
    → drop at.second second ≡ seconds pairs → written ++ overlaid pairs ≡ whole → (length first ≤ at.first) ⊎ (length second ≤ at.second)
    → written ≡ whole
none_ahead [] first second at written whole from_first from_second to_whole past = sym (append-nil written) ∙ to_whole
none_ahead (p ∷ pairs) first second at written whole from_first from_second to_whole (inl past) =
    absurd (some_node p.0 (firsts pairs) (sym (drop_all at.first first past) ∙ from_first))
none_ahead (p ∷ pairs) first second at written whole from_first from_second to_whole (inr past) =
    absurd (some_node p.1 (seconds pairs) (sym (drop_all at.second second past) ∙ from_second))

-- where one list ends, all is written
pub all_written : (first second : List Node) (at : Place) (written whole : List Node) → (length first ≤ at.first) ⊎ (length second ≤ at.second)
    → PairsAhead first second at written whole → written ≡ whole
all_written first second at written whole past ahead =
    none_ahead ahead.pairs first second at written whole ahead.from_first ahead.from_second ahead.to_whole past
