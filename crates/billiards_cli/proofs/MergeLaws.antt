-- What follows of merges by the definitions alone.
use Rattle.std.proofs.Common.{◌≡◌, ◌⊎◌, inl, inr, refl, sym, ap, ◌∙◌, subst, ℕ, zero, suc, ◌≤◌, List, [], ◌∷◌, length}
use Rattle.std.proofs.Common.{count_by, Err}
use Rattle.rational_polygon.specs.Square.{unit_square}
use Rattle.gradient_bounds.specs.Slacks as slacks
use Rattle.line_grammar.specs.declared.reason.Reason.{Reason}
use Rattle.covering_file.specs.DueBoxes.{StandsIn}
use Rattle.covering_file.specs.Node.{is_uncovered}
use Rattle.covering_file.specs.Tree.{Tree, preorder}
use Rattle.covering_file.specs.TreeFile.{TreeFile, IsTreeFile}
use Rattle.covering_file.specs.Verdicts.{IsSureFile, IsFileWith}
use Rattle.covering_file.specs.declared.TheConstants.{MAX_NODES}
use Rattle.covering_file.specs.declared.node.Node.{Node}
use Rattle.covering_file.proofs.Trees.{tree_to_list}
use Rattle.cover_merge.specs.Laws.{IsSoundButOpen}
use Rattle.cover_merge.specs.Rounds.{RefusesClaim, IsFalseAfter}
use Rattle.cover_merge.specs.declared.fault.MergeFault.{MergeFault}
use Rattle.cover_merge.specs.declared.fault.MergeFault.TheVariants.{Line, Differs, Words, Full, Read, Memory}
use Rattle.cover_merge.proofs.Merged.{closed_merge_covers_lem, closed_merge_is_sure_lem}
use Rattle.billiards_cli.specs.Commands.Merge.{OffendsFirst, AnswersFiles, AreFiles, fault_status, merged_status}
use Rattle.billiards_cli.specs.Laws.{ClosedMergeIsCovering, AreSureOrOpen, SureFilesAreMerged, ClosedMergeIsAccepted}
use Rattle.billiards_cli.specs.declared.status.Status.TheVariants as status
use Rattle.billiards_cli.proofs.CheckAnswers.{check_answer_is_due}
use Rattle.billiards_cli.proofs.MergeDue.{first_is_malformed}
use Rattle.billiards_cli.proofs.MergeRounds.{same_files, stands_there}
use Rattle.billiards_cli.proofs.WholeFiles.{text_of_tree}

none_open : (count : ℕ) → merged_status count ≡ status.Done → count ≡ 0
none_open zero is = refl
none_open (suc more) is = absurd cc

pub closed_merge_is_covering_lem : ClosedMergeIsCovering
closed_merge_is_covering_lem input file answer =
    let r = answer.merged in
    let is = answer.is_file in
    let a = answer.answers in
    let closed = none_open (count_by is_uncovered r.nodes) answer.status_is in
    record {
      heading = r.heading;
      tree = is.tree;
      is_heading = is.is_heading;
      text = answer.text_is ∙ text_of_tree r.heading is.tree r.nodes is.nodes;
      within = is.is_tree.within;
      complete = ap (λ (ns : List Node). count_by is_uncovered ns) is.nodes ∙ closed;
      covered = closed_merge_covers_lem a.first a.second r a.merges.0 a.merges.1 is.is_heading closed;
    }

-- ---- files that are sure but for uncovered boxes

sure_in_tree : (f : TreeFile) (t : Tree) → preorder t ≡ f.nodes → AreSureOrOpen f → IsSoundButOpen slacks.sure f.heading unit_square t
sure_in_tree f t is sure box n stands =
    sure box n (subst (λ (ns : List Node). StandsIn (unit_square ∷ []) ns box n) is (tree_to_list t box n stands))

sure_is_not_false : (f : TreeFile) (before : ℕ) (why : Reason) → IsTreeFile MAX_NODES f → AreSureOrOpen f → ¬ (IsFalseAfter f before why)
sure_is_not_false f before why is sure fails =
    elim (sure _ fails.node (stands_there f fails.first fails.more fails.node is fails.nodes_are)) [
      | inl sound ↦ fails.claim.1 sound
      | inr uncovered ↦ fails.is_covered uncovered
    ]

sure_claims_stand : (f g : TreeFile) (line : ℕ) (why : Reason) → IsTreeFile MAX_NODES f → IsTreeFile MAX_NODES g → AreSureOrOpen f → AreSureOrOpen g
    → ¬ (RefusesClaim f g line why)
sure_claims_stand f g line why is is' sure sure' (inl (before, number, fails)) = sure_is_not_false f before why is sure fails
sure_claims_stand f g line why is is' sure sure' (inr (passed, (before, number, fails))) = sure_is_not_false g before why is' sure' fails

sure_is_not_refused : (input : List ℕ) (fault : MergeFault) (f g : TreeFile) → AreFiles input f g → AreSureOrOpen f → AreSureOrOpen g
    → fault_status fault ≡ status.NotShown → OffendsFirst input fault ⊎ AnswersFiles input (Err fault) → ⊥
sure_is_not_refused input (Line line why) f g are sure sure' is (inl first) = first_is_malformed input line why first is
sure_is_not_refused input (Line line why) f g are sure sure' is (inr a) =
    let same = same_files input f g a.first a.second are a.files in
    sure_claims_stand a.first a.second line why a.files.first a.files.second (subst AreSureOrOpen same.0 sure) (subst AreSureOrOpen same.1 sure') a.merges.2
sure_is_not_refused input (Differs line) f g are sure sure' is cause = cc
sure_is_not_refused input (Words line) f g are sure sure' is cause = cc
sure_is_not_refused input (Full nodes) f g are sure sure' is cause = cc
sure_is_not_refused input Read f g are sure sure' is cause = cc
sure_is_not_refused input Memory f g are sure sure' is cause = cc

pub sure_files_are_merged_lem : SureFilesAreMerged
sure_files_are_merged_lem input text f g are sure sure' (inl merged) = merged
sure_files_are_merged_lem input text f g are sure sure' (inr refuses) =
    absurd (sure_is_not_refused input refuses.fault f g are sure sure' refuses.status_is refuses.cause)

pub closed_merge_is_accepted_lem : ClosedMergeIsAccepted
closed_merge_is_accepted_lem input file f g are sure sure' answer =
    let r = answer.merged in
    let a = answer.answers in
    let m = a.merges.1 in
    let same = same_files input f g a.first a.second are a.files in
    let closed = none_open (count_by is_uncovered r.nodes) answer.status_is in
    let is_sure = closed_merge_is_sure_lem a.first a.second r m a.merges.0.alike
    (sure_in_tree a.first m.first m.first_nodes (subst AreSureOrOpen same.0 sure))
    (sure_in_tree a.second m.second m.second_nodes (subst AreSureOrOpen same.1 sure')) closed in
    let with_tree : IsFileWith slacks.sure (length (preorder m.tree)) (length r.heading.words) file = record {
      heading = r.heading;
      tree = m.tree;
      is_heading = answer.is_file.is_heading;
      sound = is_sure;
      text = answer.text_is ∙ text_of_tree r.heading m.tree r.nodes m.nodes;
      node_count = refl;
      word_count = refl;
    } in
    let within = subst (λ (ns : List Node). length ns ≤ MAX_NODES) (sym m.nodes) a.merges.2 in
    let sure_file : IsSureFile MAX_NODES file = (length (preorder m.tree), length r.heading.words, within, with_tree) in
    (sure_file, λ ending line checked. check_answer_is_due file ending line checked sure_file)
