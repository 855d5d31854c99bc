-- Two files, laid together.
use Rattle.std.proofs.Common.{◌≡◌, inl, inr, sym, ap, ◌∙◌, subst, ℕ, ◌+◌, ◌-◌, ◌<◌, ◌≤◌, max, List, [], ◌∷◌, map, length, All, get_or, arith}
use Rattle.std.proofs.lemmas.List.{get_or_default}
use Rattle.rational_polygon.specs.declared.TheConstants.{MAX_LEVEL}
use Rattle.rational_polygon.specs.Square.{Square, unit_square}
use Rattle.covering_file.specs.declared.TheConstants.{MAX_WORDS}
use Rattle.covering_file.specs.declared.node.Node.{Node}
use Rattle.covering_file.specs.declared.node.Node.TheVariants.{Split, Outside, Shown, Corner, Uncovered}
use Rattle.covering_file.specs.DueBoxes.{StandsIn}
use Rattle.covering_file.specs.Faults.{word_at, IsListed}
use Rattle.covering_file.specs.Header.{Heading, IsHeading, IsStableWord}
use Rattle.covering_file.specs.Node.{IsNode}
use Rattle.covering_file.specs.Tree.{Tree, preorder, StandsAt}
use Rattle.covering_file.specs.TreeFile.{TreeFile, IsTreeFile, HasLevelFor}
use Rattle.covering_file.proofs.Trees.{each_stands, list_to_tree}
use Rattle.cover_merge.specs.Fold.{IsFold}
use Rattle.cover_merge.specs.Merge.{IsMerge}
use Rattle.cover_merge.specs.Overlay.{overlay}
use Rattle.cover_merge.specs.Parts.{SplitsAbove}
use Rattle.cover_merge.specs.Rounds.{AreAlike}
use Rattle.cover_merge.specs.Steps.{number_at, LaysTogether}
use Rattle.cover_merge.specs.Union.{Lists, IsUnion, IsNumberOf, with_number, renumbered}
use Rattle.cover_merge.proofs.Judged.{file_is_whole}
use Rattle.cover_merge.proofs.Numbered.{union_keeps_first_lem, union_has_others_lem, union_has_no_more_lem, renumbered_has_nodes_lem, is_renumbered}
use Rattle.cover_merge.proofs.Standing.{overlay_is_of_both_lem, overlay_is_no_deeper_lem, fold_is_of_tree_lem}

-- ---- the words

pub all_listed : (words others union slice list : List (List ℕ)) → IsUnion words others union → slice ≡ union → list ≡ others → (i : ℕ)
    → IsListed list i → Lists slice (word_at list i)
all_listed words others union slice list is same same_list i listed =
    subst (λ (us : List (List ℕ)). Lists us (word_at list i)) (sym same)
    (subst (λ (ws : List (List ℕ)). Lists union (word_at ws i)) (sym same_list)
    (union_has_others_lem words others union i is (subst (λ (ws : List (List ℕ)). IsListed ws i) same_list listed)))

pub all_numbered : (others list union slice : List (List ℕ)) (numbers items : List ℕ) → slice ≡ union → list ≡ others → numbers ≡ items
    → ((i : ℕ) → IsListed list i → IsNumberOf slice (word_at list i) (number_at items i))
    → (i : ℕ) → IsListed others i → IsNumberOf union (word_at others i) (number_at numbers i)
all_numbered others list union slice numbers items same same_list same_numbers each i listed =
    subst (λ (ns : List ℕ). IsNumberOf union (word_at others i) (number_at ns i)) (sym same_numbers)
    (subst (λ (us : List (List ℕ)). IsNumberOf us (word_at others i) (number_at items i)) same
    (subst (λ (ws : List (List ℕ)). IsNumberOf slice (word_at ws i) (number_at items i)) same_list
    (each i (subst (λ (ws : List (List ℕ)). IsListed ws i) (sym same_list) listed))))

listed_stable : (words : List (List ℕ)) (w : List ℕ) → All IsStableWord words → Lists words w → IsStableWord w
listed_stable words w stable lists =
    subst IsStableWord lists.2 (stable (lists.0 - 1) [] (omega (arith, lists.1.0, lists.1.1)))

stands_at : (words : List (List ℕ)) (k : ℕ) (d : List ℕ) → k < length words → Lists words (get_or words k d)
stands_at words k d within =
    let place : k + 1 - 1 ≡ k = omega arith in
    (k + 1, (omega arith, omega (arith, within)), ap (λ (j : ℕ). get_or words j []) place ∙ get_or_default words k [] d within)

union_is_stable : (words others union : List (List ℕ)) → All IsStableWord words → All IsStableWord others → IsUnion words others union
    → All IsStableWord union
union_is_stable words others union stable stable_others is k d within =
    elim (union_has_no_more_lem words others union (get_or union k d) is (stands_at union k d within)) [
      | inl first ↦ listed_stable words (get_or union k d) stable first
      | inr other ↦ listed_stable others (get_or union k d) stable_others other
    ]

-- the header of a merge
abbrev pub merged_heading : Heading → ℕ → List (List ℕ) → Heading
merged_heading f depth union = record { version = f.version; region = f.region; words = union; depth = max f.depth depth }

union_is_longer : (words others union : List (List ℕ)) → IsUnion words others union → 1 ≤ length words → length words ≤ length union
union_is_longer words others union is some = (union_keeps_first_lem words others union (length words) is (some, omega arith)).0.1

pub merged_is_heading : (f g : Heading) (union : List (List ℕ)) → IsHeading f → IsHeading g → IsUnion f.words g.words union → length union ≤ MAX_WORDS
    → IsHeading (merged_heading f g.depth union)
merged_is_heading f g union is_f is_g is few = record {
  version = is_f.version;
  region = is_f.region;
  word_count = (omega (arith, union_is_longer f.words g.words union is is_f.word_count.0, is_f.word_count.0), few);
  stable = union_is_stable f.words g.words union is_f.stable is_g.stable is;
  depth = omega (arith, is_f.depth, is_g.depth);
}

-- ---- the nodes

pub may_be_renumbered : (limit : ℕ) (f : TreeFile) (nodes : List Node) (numbers : List ℕ) → IsTreeFile limit f → nodes ≡ f.nodes
    → length numbers ≡ length f.heading.words → All (λ (n : Node). (version : ℕ) × IsNode (length numbers) version n) nodes
may_be_renumbered limit f nodes numbers is are count =
    subst (All (λ (n : Node). (version : ℕ) × IsNode (length numbers) version n)) (sym are)
    (each_stands (λ (n : Node). (version : ℕ) × IsNode (length numbers) version n) f.nodes (unit_square ∷ []) (file_is_whole limit f is).due
    (λ box n stands. (
      f.heading.version,
      subst (λ (c : ℕ). IsNode c f.heading.version n) (sym count)
          (is.is_tree.listed box n (list_to_tree is.tree box n (subst (λ (ns : List Node). StandsIn (unit_square ∷ []) ns box n) (sym is.nodes) stands))),
    )))

-- the tree that was laid over the first
abbrev pub laid_tree : {limit : ℕ} {f g : TreeFile} → IsTreeFile limit f → IsTreeFile limit g → List ℕ → Tree
laid_tree is_f is_g numbers = overlay is_f.tree (renumbered (number_at numbers) is_g.tree)

pub laid_nodes : (limit : ℕ) (f g : TreeFile) (is_f : IsTreeFile limit f) (is_g : IsTreeFile limit g) (numbers : List ℕ) (first second laid : List Node)
    → first ≡ f.nodes → second ≡ map (with_number (number_at numbers)) g.nodes
    → ((s t : Tree) → preorder s ≡ first → preorder t ≡ second → laid ≡ preorder (overlay s t)) → preorder (laid_tree is_f is_g numbers) ≡ laid
laid_nodes limit f g is_f is_g numbers first second laid of_first of_second lays =
    let number = number_at numbers in
    sym (lays is_f.tree (renumbered number is_g.tree) (is_f.nodes ∙ sym of_first)
    (renumbered_has_nodes_lem number is_g.tree ∙ ap (map (with_number number)) is_g.nodes ∙ sym of_second))

above : (limit : ℕ) (f : TreeFile) (is : IsTreeFile limit f) → SplitsAbove f.heading.depth unit_square is.tree
above limit f is box stands = is.is_tree.levels box Split stands

was_split : (number : ℕ → ℕ) (m : Node) → Split ≡ with_number number m → m ≡ Split
was_split number (Shown i) same = cc
was_split number (Corner i) same = cc
was_split number m same = sym same

pub laid_splits : (limit : ℕ) (f g : TreeFile) (is_f : IsTreeFile limit f) (is_g : IsTreeFile limit g) (numbers : List ℕ)
    → SplitsAbove (max f.heading.depth g.heading.depth) unit_square (laid_tree is_f is_g numbers)
laid_splits limit f g is_f is_g numbers =
    let depth = max f.heading.depth g.heading.depth in
    let number = number_at numbers in
    overlay_is_no_deeper_lem depth is_f.tree (renumbered number is_g.tree) unit_square
    (λ box stands. omega (arith, above limit f is_f box stands))
    (λ box stands.
    let was = is_renumbered number is_g.tree unit_square box Split stands in
    let split = subst (λ (m : Node). StandsAt unit_square is_g.tree box m) (was_split number was.0 was.2) was.1 in
    omega (arith, above limit g is_g box split))

pub laid_within : (limit : ℕ) (f g : TreeFile) (is_f : IsTreeFile limit f) (is_g : IsTreeFile limit g) (numbers : List ℕ)
    → SplitsAbove MAX_LEVEL unit_square (laid_tree is_f is_g numbers)
laid_within limit f g is_f is_g numbers box stands =
    omega (arith, laid_splits limit f g is_f is_g numbers box stands, is_f.is_heading.depth, is_g.is_heading.depth)

-- ---- the merge

-- a node of a file, with its number in the union, is one of the merge, at a level for it
record MayStand (h : Heading) (box : Square) (n : Node) : Type 0 where
  node : IsNode (length h.words) h.version n
  level : HasLevelFor h box n

first_may : (f h : Heading) (box : Square) (n : Node) → h.version ≡ f.version → f.depth ≤ h.depth → length f.words ≤ length h.words
    → IsNode (length f.words) f.version n → HasLevelFor f box n → MayStand h box n
first_may f h box Split version deeper more node level = record { node = tt; level = omega (arith, level, deeper) }
first_may f h box Outside version deeper more node level = record { node = tt; level = tt }
first_may f h box (Shown i) version deeper more node level = record { node = (node.0, omega (arith, node.1, more)); level = tt }
first_may f h box (Corner i) version deeper more node level =
    record { node = (version ∙ node.0, node.1, omega (arith, node.2, more)); level = level }
first_may f h box Uncovered version deeper more node level = record { node = tt; level = tt }

second_may : (g h : Heading) (number : ℕ → ℕ) (box : Square) (n : Node) → h.version ≡ g.version → g.depth ≤ h.depth
    → ((i : ℕ) → IsListed g.words i → IsListed h.words (number i))
    → IsNode (length g.words) g.version n → HasLevelFor g box n → MayStand h box (with_number number n)
second_may g h number box Split version deeper listed node level = record { node = tt; level = omega (arith, level, deeper) }
second_may g h number box Outside version deeper listed node level = record { node = tt; level = tt }
second_may g h number box (Shown i) version deeper listed node level = record { node = listed i node; level = tt }
second_may g h number box (Corner i) version deeper listed node level = let one = listed i (node.1, node.2) in
    record { node = (version ∙ node.0, one.0, one.1); level = level }
second_may g h number box Uncovered version deeper listed node level = record { node = tt; level = tt }

merge_may : (f g r : TreeFile) (m : IsMerge f g r) → AreAlike f.heading g.heading → 1 ≤ length f.heading.words
    → ((box : Square) (n : Node) → StandsAt unit_square m.first box n → IsNode (length f.heading.words) f.heading.version n × HasLevelFor f.heading box n)
    → ((box : Square) (n : Node) → StandsAt unit_square m.second box n → IsNode (length g.heading.words) g.heading.version n × HasLevelFor g.heading box n)
    → (box : Square) (n : Node) → StandsAt unit_square m.tree box n → MayStand r.heading box n
merge_may f g r m alike some in_first in_second box n stands =
    let other = renumbered m.number m.second in
    elim (fold_is_of_tree_lem r.heading.words (overlay m.first other) m.tree unit_square box n m.fold stands) [
      | inl laid ↦ elim (overlay_is_of_both_lem m.first other unit_square box n laid) [
        | inl first ↦
            let may = in_first box n first in
            first_may f.heading r.heading box n m.version (omega (arith, m.depth))
            (union_is_longer f.heading.words g.heading.words r.heading.words m.words some) may.0 may.1
        | inr second ↦
            let was = is_renumbered m.number m.second unit_square box n second in
            let may = in_second box was.0 was.1 in
            subst (λ (k : Node). MayStand r.heading box k) (sym was.2)
            (second_may g.heading r.heading m.number box was.0 (m.version ∙ alike.version) (omega (arith, m.depth))
            (λ i listed. (m.numbers i listed).listed) may.0 may.1)
      ]
      | inr shown ↦
          subst (λ (k : Node). MayStand r.heading box k) (sym shown.1) (record { node = shown.2.listed; level = tt })
    ]

pub laid_together : (limit : ℕ) (f g r : TreeFile) (is_f : IsTreeFile limit f) (is_g : IsTreeFile limit g) (union : List (List ℕ)) (numbers : List ℕ)
    → AreAlike f.heading g.heading → IsUnion f.heading.words g.heading.words union → length union ≤ MAX_WORDS
    → r.heading ≡ merged_heading f.heading g.heading.depth union
    → ((i : ℕ) → IsListed g.heading.words i → IsNumberOf union (word_at g.heading.words i) (number_at numbers i))
    → (tree : Tree) → IsFold union unit_square (laid_tree is_f is_g numbers) tree → preorder tree ≡ r.nodes → LaysTogether f g r
laid_together limit f g r is_f is_g union numbers alike is few heading numbered tree folds nodes =
    let words : r.heading.words ≡ union = ap (λ (h : Heading). h.words) heading in
    let m : IsMerge f g r = record {
      version = ap (λ (h : Heading). h.version) heading;
      region = ap (λ (h : Heading). h.region) heading;
      words = subst (IsUnion f.heading.words g.heading.words) (sym words) is;
      depth = ap (λ (h : Heading). h.depth) heading;
      first = is_f.tree;
      second = is_g.tree;
      tree = tree;
      first_nodes = is_f.nodes;
      second_nodes = is_g.nodes;
      nodes = nodes;
      number = number_at numbers;
      numbers = λ i listed. subst (λ (ws : List (List ℕ)). IsNumberOf ws (word_at g.heading.words i) (number_at numbers i)) (sym words) (numbered i listed);
      fold = subst (λ (ws : List (List ℕ)). IsFold ws unit_square (laid_tree is_f is_g numbers) tree) (sym words) folds;
    } in
    let may = merge_may f g r m alike is_f.is_heading.word_count.0 (λ box n stands. (is_f.is_tree.listed box n stands, is_f.is_tree.levels box n stands))
    (λ box n stands. (is_g.is_tree.listed box n stands, is_g.is_tree.levels box n stands)) in (
      m,
      record {
        is_heading = subst IsHeading (sym heading) (merged_is_heading f.heading g.heading union is_f.is_heading is_g.is_heading is few);
        tree = tree;
        nodes = nodes;
        is_tree = record {
          within = omega (arith, ap length nodes);
          listed = λ box n stands. (may box n stands).node;
          levels = λ box n stands. (may box n stands).level;
        };
      },
    )
