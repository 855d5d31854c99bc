-- What stands in an overlay and in a fold.
use Rattle.std.proofs.Common.{◌≡◌, ◌⊎◌, inl, inr, refl, sym, ap, subst, ℕ, List, true, false, arith}
use Rattle.rational_polygon.specs.Square.{Square, child}
use Rattle.rational_polygon.proofs.Halves.{child_within}
use Rattle.gradient_bounds.specs.Slacks.{Slacks}
use Rattle.gradient_bounds.specs.Slacks as slacks
use Rattle.gradient_bounds.proofs.Boxes.{clear_with_less_lem}
use Rattle.covering_file.specs.declared.node.Node.{Node}
use Rattle.covering_file.specs.declared.node.Node.TheVariants.{Split, Shown, Uncovered}
use Rattle.covering_file.specs.Faults.{word_at}
use Rattle.covering_file.specs.Node.{is_uncovered}
use Rattle.covering_file.specs.Sound.{IsSoundNode}
use Rattle.covering_file.specs.Tree.{Tree, leaf, split, StandsAt}
use Rattle.covering_claims.specs.Claims.{IsFirstClear}
use Rattle.cover_merge.specs.Laws.{OverlayIsOfBoth, IsShownFirst, FoldIsOfTree, LiesIn, LiesInUncovered, OverlayIsOpenWhereBothAre, FoldIsOpenWhereTreeIs}
use Rattle.cover_merge.specs.Laws.{OverlayIsNoDeeper, FoldIsNoDeeper, OverlayKeepsSound, FoldKeepsSound}

-- ---- the overlay

pub overlay_is_of_both_lem : OverlayIsOfBoth
overlay_is_of_both_lem (leaf Uncovered is) t root box n stands = inr stands
overlay_is_of_both_lem (leaf m is) t root box n stands = inl stands
overlay_is_of_both_lem (split a b c d) (leaf Uncovered is) root box n stands = inl stands
overlay_is_of_both_lem (split a b c d) (leaf m is) root box n stands = inr stands
overlay_is_of_both_lem (split a b c d) (split e f g h) root box n (inl here) = inl (inl here)
overlay_is_of_both_lem (split a b c d) (split e f g h) root box n (inr (inl there)) =
    elim (overlay_is_of_both_lem a e (child root 0) box n there) [ inl s ↦ inl (inr (inl s)) | inr t ↦ inr (inr (inl t)) ]
overlay_is_of_both_lem (split a b c d) (split e f g h) root box n (inr (inr (inl there))) =
    elim (overlay_is_of_both_lem b f (child root 1) box n there) [ inl s ↦ inl (inr (inr (inl s))) | inr t ↦ inr (inr (inr (inl t))) ]
overlay_is_of_both_lem (split a b c d) (split e f g h) root box n (inr (inr (inr (inl there)))) =
    elim (overlay_is_of_both_lem c g (child root 2) box n there) [ inl s ↦ inl (inr (inr (inr (inl s)))) | inr t ↦ inr (inr (inr (inr (inl t)))) ]
overlay_is_of_both_lem (split a b c d) (split e f g h) root box n (inr (inr (inr (inr there)))) =
    elim (overlay_is_of_both_lem d h (child root 3) box n there) [ inl s ↦ inl (inr (inr (inr (inr s)))) | inr t ↦ inr (inr (inr (inr (inr t)))) ]

-- what stands in a tree stands within its root
stands_within : (t : Tree) (root box : Square) (n : Node) → StandsAt root t box n → LiesIn box root
stands_within (leaf m is) root box n stands = subst (λ (b : Square). LiesIn b root) (sym stands.0) (λ p inside. inside)
stands_within (split a b c d) root box n (inl here) = subst (λ (b : Square). LiesIn b root) (sym here.0) (λ p inside. inside)
stands_within (split a b c d) root box n (inr (inl there)) =
    λ p inside. child_within root p 0 (omega arith) (stands_within a (child root 0) box n there p inside)
stands_within (split a b c d) root box n (inr (inr (inl there))) =
    λ p inside. child_within root p 1 (omega arith) (stands_within b (child root 1) box n there p inside)
stands_within (split a b c d) root box n (inr (inr (inr (inl there)))) =
    λ p inside. child_within root p 2 (omega arith) (stands_within c (child root 2) box n there p inside)
stands_within (split a b c d) root box n (inr (inr (inr (inr there)))) =
    λ p inside. child_within root p 3 (omega arith) (stands_within d (child root 3) box n there p inside)

covered : (n : Node) → is_uncovered n ≡ false → ¬ (Uncovered ≡ n)
covered n is same =
    let both : true ≡ is_uncovered n = ap is_uncovered same in
    cc

lies_in_root : (t : Tree) (root box : Square) (is : Unit {0}) → StandsAt root t box Uncovered → LiesInUncovered root (leaf Uncovered is) box
lies_in_root t root box is stands = (root, (refl, refl), stands_within t root box Uncovered stands)

lies_in_itself : (t : Tree) (root box : Square) → StandsAt root t box Uncovered → LiesInUncovered root t box
lies_in_itself t root box stands = (box, stands, λ p inside. inside)

pub open_where_both_are_lem : OverlayIsOpenWhereBothAre
open_where_both_are_lem (leaf Uncovered is) t root box stands = (lies_in_root t root box is stands, lies_in_itself t root box stands)
open_where_both_are_lem (leaf m is) t root box stands = absurd (covered m refl stands.1)
open_where_both_are_lem (split a b c d) (leaf Uncovered is) root box stands =
    (lies_in_itself (split a b c d) root box stands, lies_in_root (split a b c d) root box is stands)
open_where_both_are_lem (split a b c d) (leaf m is) root box stands = absurd (covered m refl stands.1)
open_where_both_are_lem (split a b c d) (split e f g h) root box (inl here) = absurd (covered Split refl here.1)
open_where_both_are_lem (split a b c d) (split e f g h) root box (inr (inl there)) =
    let both = open_where_both_are_lem a e (child root 0) box there in
    ((both.0.0, inr (inl both.0.1), both.0.2), (both.1.0, inr (inl both.1.1), both.1.2))
open_where_both_are_lem (split a b c d) (split e f g h) root box (inr (inr (inl there))) =
    let both = open_where_both_are_lem b f (child root 1) box there in
    ((both.0.0, inr (inr (inl both.0.1)), both.0.2), (both.1.0, inr (inr (inl both.1.1)), both.1.2))
open_where_both_are_lem (split a b c d) (split e f g h) root box (inr (inr (inr (inl there)))) =
    let both = open_where_both_are_lem c g (child root 2) box there in
    ((both.0.0, inr (inr (inr (inl both.0.1))), both.0.2), (both.1.0, inr (inr (inr (inl both.1.1))), both.1.2))
open_where_both_are_lem (split a b c d) (split e f g h) root box (inr (inr (inr (inr there)))) =
    let both = open_where_both_are_lem d h (child root 3) box there in
    ((both.0.0, inr (inr (inr (inr both.0.1))), both.0.2), (both.1.0, inr (inr (inr (inr both.1.1))), both.1.2))

pub overlay_is_no_deeper_lem : OverlayIsNoDeeper
overlay_is_no_deeper_lem depth s t root in_s in_t box stands =
    elim (overlay_is_of_both_lem s t root box Split stands) [ inl there ↦ in_s box there | inr there ↦ in_t box there ]

pub overlay_keeps_sound_lem : OverlayKeepsSound
overlay_keeps_sound_lem e h root s t in_s in_t box n stands =
    elim (overlay_is_of_both_lem s t root box n stands) [ inl there ↦ in_s box n there | inr there ↦ in_t box n there ]

-- ---- the fold

-- what stands in a split of four folds
in_four : (words : List (List ℕ)) (a b c d e f g h : Tree) (root box : Square) (n : Node)
    → (StandsAt (child root 0) e box n → StandsAt (child root 0) a box n ⊎ IsShownFirst words box n)
    → (StandsAt (child root 1) f box n → StandsAt (child root 1) b box n ⊎ IsShownFirst words box n)
    → (StandsAt (child root 2) g box n → StandsAt (child root 2) c box n ⊎ IsShownFirst words box n)
    → (StandsAt (child root 3) h box n → StandsAt (child root 3) d box n ⊎ IsShownFirst words box n)
    → StandsAt root (split e f g h) box n → StandsAt root (split a b c d) box n ⊎ IsShownFirst words box n
in_four words a b c d e f g h root box n of_a of_b of_c of_d (inl here) = inl (inl here)
in_four words a b c d e f g h root box n of_a of_b of_c of_d (inr (inl there)) = elim (of_a there) [ inl s ↦ inl (inr (inl s)) | inr first ↦ inr first ]
in_four words a b c d e f g h root box n of_a of_b of_c of_d (inr (inr (inl there))) =
    elim (of_b there) [ inl s ↦ inl (inr (inr (inl s))) | inr first ↦ inr first ]
in_four words a b c d e f g h root box n of_a of_b of_c of_d (inr (inr (inr (inl there)))) =
    elim (of_c there) [ inl s ↦ inl (inr (inr (inr (inl s)))) | inr first ↦ inr first ]
in_four words a b c d e f g h root box n of_a of_b of_c of_d (inr (inr (inr (inr there)))) =
    elim (of_d there) [ inl s ↦ inl (inr (inr (inr (inr s)))) | inr first ↦ inr first ]

shown_at : (words : List (List ℕ)) (r : Tree) (root box : Square) (n : Node) (i : ℕ) → r ≡ leaf (Shown i) tt
    → IsFirstClear words slacks.sure.gradient slacks.findable.gradient root i → StandsAt root r box n → IsShownFirst words box n
shown_at words r root box n i is first stands =
    let here : StandsAt root (leaf (Shown i) tt) box n = subst (λ (t : Tree). StandsAt root t box n) is stands in
    (i, here.1, subst (λ (b : Square). IsFirstClear words slacks.sure.gradient slacks.findable.gradient b i) (sym here.0) first)

pub fold_is_of_tree_lem : FoldIsOfTree
fold_is_of_tree_lem words (leaf m is) r root box n fold stands = inl (subst (λ (t : Tree). StandsAt root t box n) fold stands)
fold_is_of_tree_lem words (split a b c d) r root box n (e, f, g, h, p, q, u, v, inl apart) stands =
    in_four words a b c d e f g h root box n (λ s. fold_is_of_tree_lem words a e (child root 0) box n p s)
    (λ s. fold_is_of_tree_lem words b f (child root 1) box n q s) (λ s. fold_is_of_tree_lem words c g (child root 2) box n u s)
    (λ s. fold_is_of_tree_lem words d h (child root 3) box n v s) (subst (λ (t : Tree). StandsAt root t box n) apart.0 stands)
fold_is_of_tree_lem words (split a b c d) r root box n (e, f, g, h, p, q, u, v, inr joined) stands =
    inr (shown_at words r root box n joined.1.0 joined.1.1 joined.1.2 stands)

pub fold_is_open_where_tree_is_lem : FoldIsOpenWhereTreeIs
fold_is_open_where_tree_is_lem words o r root box fold stands =
    elim (fold_is_of_tree_lem words o r root box Uncovered fold stands) [
      | inl there ↦ there
      | inr first ↦ absurd (covered (Shown first.0) refl first.1)
    ]

no_split : (i : ℕ) → ¬ (Split ≡ Shown i)
no_split i same = cc

pub fold_is_no_deeper_lem : FoldIsNoDeeper
fold_is_no_deeper_lem depth words o r root fold above box stands =
    elim (fold_is_of_tree_lem words o r root box Split fold stands) [ inl there ↦ above box there | inr first ↦ absurd (no_split first.0 first.1) ]

pub fold_keeps_sound_lem : FoldKeepsSound
fold_keeps_sound_lem e h root o r less fold sound box n stands =
    elim (fold_is_of_tree_lem h.words o r root box n fold stands) [
      | inl there ↦ sound box n there
      | inr first ↦
          let clear = clear_with_less_lem (word_at h.words first.0) box slacks.sure.gradient e.gradient less first.2.clear in
          inl (subst (λ (m : Node). IsSoundNode h e box m) (sym first.1) (first.2.listed, clear))
    ]
