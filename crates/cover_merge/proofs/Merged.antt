-- What a merge of two files says of its region.
use Rattle.std.proofs.Common.{◌≡◌, inl, inr, refl, sym, ap, ◌∙◌, subst, ℕ, List, [], ◌∷◌, length, count_by, arith}
use Rattle.std.proofs.lemmas.List.{length-map}
use Rattle.rational_polygon.specs.Square.{unit_square}
use Rattle.rat_core.specs.Fraction.{◌≤ℚ◌}
use Rattle.rat_core.proofs.Laws.{le_refl}
use Rattle.gradient_bounds.specs.Slacks.{Slacks}
use Rattle.gradient_bounds.specs.Slacks as slacks
use Rattle.covering_file.specs.declared.node.Node.{Node}
use Rattle.covering_file.specs.declared.node.Node.TheVariants.{Split, Outside, Shown, Corner, Uncovered}
use Rattle.covering_file.specs.DueBoxes.{StandsIn}
use Rattle.covering_file.specs.Header.{Heading}
use Rattle.covering_file.specs.Node.{is_uncovered}
use Rattle.covering_file.specs.Sound.{IsSoundNode}
use Rattle.covering_file.specs.Tree.{Tree, preorder}
use Rattle.covering_file.specs.TreeFile.{TreeFile}
use Rattle.covering_file.proofs.Covers.{narrower, sound_is_covered}
use Rattle.covering_file.proofs.Trees.{tree_to_list}
use Rattle.cover_merge.specs.Laws.{IsSoundButOpen}
use Rattle.cover_merge.specs.Merge.{IsMerge}
use Rattle.cover_merge.specs.MergeLaws.{MergeIsOpenWhereBothAre, MergeIsSmall, ClosedMergeIsSound, ClosedMergeCovers, ClosedMergeIsSure}
use Rattle.cover_merge.specs.Overlay.{overlay}
use Rattle.cover_merge.specs.Parts.{size}
use Rattle.cover_merge.specs.Rounds.{AreAlike, AreTrueOrOpen}
use Rattle.cover_merge.specs.Union.{with_number, renumbered}
use Rattle.cover_merge.proofs.Numbered.{union_keeps_first_lem, sound_still, renumbered_has_nodes_lem, renumbered_is_open_where_tree_is_lem}
use Rattle.cover_merge.proofs.Numbered.{renumbered_keeps_sound_lem}
use Rattle.cover_merge.proofs.Sizes.{overlay_is_small_lem, fold_is_small_lem, closed_is_sound_lem}
use Rattle.cover_merge.proofs.Standing.{open_where_both_are_lem, fold_is_open_where_tree_is_lem, overlay_keeps_sound_lem, fold_keeps_sound_lem}

-- ---- uncovered boxes and sizes

pub merge_is_open_where_both_are_lem : MergeIsOpenWhereBothAre
merge_is_open_where_both_are_lem f g r m box stands =
    let second = renumbered m.number m.second in
    let both = open_where_both_are_lem m.first second unit_square box
    (fold_is_open_where_tree_is_lem r.heading.words (overlay m.first second) m.tree unit_square box m.fold stands) in
    let outer = both.1.0 in
    (both.0, (outer, (renumbered_is_open_where_tree_is_lem m.number m.second unit_square outer).0 both.1.1, both.1.2))

pub merge_is_small_lem : MergeIsSmall
merge_is_small_lem f g r m =
    let second = renumbered m.number m.second in
    let as_many : size second ≡ size m.second =
    ap length (renumbered_has_nodes_lem m.number m.second) ∙ length-map (preorder m.second) (with_number m.number) in
    omega (
      arith,
      fold_is_small_lem r.heading.words (overlay m.first second) m.tree unit_square m.fold,
      overlay_is_small_lem m.first second,
      as_many,
      ap length m.first_nodes,
      ap length m.second_nodes,
      ap length m.nodes,
    )

-- ---- soundness

same_number : (n : Node) → with_number (λ (i : ℕ). i) n ≡ n
same_number Split = refl
same_number Outside = refl
same_number (Shown i) = refl
same_number (Corner i) = refl
same_number Uncovered = refl

-- the first file's words keep their numbers
first_sound : (e : Slacks) (f g r : TreeFile) (m : IsMerge f g r) → IsSoundButOpen e f.heading unit_square m.first
    → IsSoundButOpen e r.heading unit_square m.first
first_sound e f g r m sound box n stands =
    elim (sound box n stands) [
      | inl good ↦
          inl (subst (λ (k : Node). IsSoundNode r.heading e box k) (same_number n)
          (sound_still e f.heading r.heading (λ (i : ℕ). i) box n (sym m.version) (sym m.region) (omega (arith, m.depth))
          (λ i listed. union_keeps_first_lem f.heading.words g.heading.words r.heading.words i m.words listed) good))
      | inr uncovered ↦ inr uncovered
    ]

second_sound : (e : Slacks) (f g r : TreeFile) (m : IsMerge f g r) → AreAlike f.heading g.heading → IsSoundButOpen e g.heading unit_square m.second
    → IsSoundButOpen e r.heading unit_square (renumbered m.number m.second)
second_sound e f g r m alike sound =
    renumbered_keeps_sound_lem e g.heading r.heading m.number m.second unit_square (sym alike.version ∙ sym m.version)
    (sym alike.region ∙ sym m.region) (omega (arith, m.depth))
    (λ i listed. let n = m.numbers i listed in (n.listed, n.word)) sound

merge_sound : (e : Slacks) (f g r : TreeFile) (m : IsMerge f g r) → e.gradient ≤ℚ slacks.sure.gradient → AreAlike f.heading g.heading
    → IsSoundButOpen e f.heading unit_square m.first → IsSoundButOpen e g.heading unit_square m.second
    → IsSoundButOpen e r.heading unit_square m.tree
merge_sound e f g r m less alike first second =
    let other = renumbered m.number m.second in
    fold_keeps_sound_lem e r.heading unit_square (overlay m.first other) m.tree less m.fold
    (overlay_keeps_sound_lem e r.heading unit_square m.first other (first_sound e f g r m first) (second_sound e f g r m alike second))

closed : (f g r : TreeFile) (m : IsMerge f g r) → count_by is_uncovered r.nodes ≡ 0 → count_by is_uncovered (preorder m.tree) ≡ 0
closed f g r m none = ap (λ (ns : List Node). count_by is_uncovered ns) m.nodes ∙ none

-- claims that are true or open in a list are so in its tree
pub true_in_tree : (h : Heading) (nodes : List Node) (t : Tree) → preorder t ≡ nodes → AreTrueOrOpen h nodes → IsSoundButOpen slacks.sound h unit_square t
true_in_tree h nodes t is true box n stands =
    true box n (subst (λ (ns : List Node). StandsIn (unit_square ∷ []) ns box n) is (tree_to_list t box n stands))

pub closed_merge_is_sound_lem : ClosedMergeIsSound
closed_merge_is_sound_lem f g r fit m none =
    closed_is_sound_lem slacks.sound r.heading m.tree
    (merge_sound slacks.sound f g r m narrower fit.alike (true_in_tree f.heading f.nodes m.first m.first_nodes fit.first)
    (true_in_tree g.heading g.nodes m.second m.second_nodes fit.second)) (closed f g r m none)

pub closed_merge_covers_lem : ClosedMergeCovers
closed_merge_covers_lem f g r fit m heading none = sound_is_covered r.heading m.tree heading (closed_merge_is_sound_lem f g r fit m none)

pub closed_merge_is_sure_lem : ClosedMergeIsSure
closed_merge_is_sure_lem f g r m alike first second none =
    closed_is_sound_lem slacks.sure r.heading m.tree (merge_sound slacks.sure f g r m (le_refl slacks.sure.gradient) alike first second) (closed f g r m none)
