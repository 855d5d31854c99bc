-- A covering that is complete has a sure tree.
use Rattle.std.proofs.Common.{◌≡◌, inl, inr, refl, sym, ap, ◌∙◌, subst, ℕ, ◌+◌, List, [], ◌∷◌, length, false, arith}
use Rattle.std.proofs.lemmas.List.Sums.{sum_by-append}
use Rattle.std.specs.List.{sum_by}
use Rattle.std.specs.Prelude.{cond, count_by}
use Rattle.rational_polygon.specs.Square.{Square, unit_square}
use Rattle.gradient_bounds.specs.Slacks as slacks
use Rattle.line_grammar.specs.Text.{text_of}
use Rattle.covering_file.specs.declared.node.Node.{Node}
use Rattle.covering_file.specs.declared.node.Node.TheVariants.{Split, Outside, Shown, Corner, Uncovered}
use Rattle.covering_file.specs.DueBoxes.{due_after, StandsIn}
use Rattle.covering_file.specs.FilePart.{file_lines}
use Rattle.covering_file.specs.Header.{Heading}
use Rattle.covering_file.specs.Node.{is_uncovered}
use Rattle.covering_file.specs.Sound.{IsSoundNode, IsSure}
use Rattle.covering_file.proofs.Sure.{sure_is_not_refused}
use Rattle.covering_file.proofs.Trees.{whole_has_tree, tree_to_list}
use Rattle.covering_file.proofs.TreeText.{file_text-lines}
use Rattle.coverer.specs.Causes.{HasCause}
use Rattle.coverer.specs.Laws.{CompleteIsSure, CompleteIsNotRefused}

-- a node that stands by its cause and is not uncovered is sure
caused_is_sure : (h : Heading) (box : Square) (node : Node) → HasCause h box node → is_uncovered node ≡ false → IsSoundNode h slacks.sure box node
caused_is_sure h box Outside cause covered = cause
caused_is_sure h box (Shown i) cause covered = (cause.1.listed, cause.1.clear)
caused_is_sure h box (Corner i) cause covered = (cause.0, cause.2.listed, cause.2.clear)
caused_is_sure h box Split cause covered = cause.1
caused_is_sure h box Uncovered cause covered = cc

counted_first : (n : Node) (nodes : List Node) → count_by is_uncovered (n ∷ nodes) ≡ cond (is_uncovered n) 1 0 + count_by is_uncovered nodes
counted_first n nodes =
    let one = λ (m : Node). cond (is_uncovered m) 1 0 in
    let here : sum_by one (n ∷ []) ≡ one n = omega arith in
    sum_by-append one (n ∷ []) nodes ∙ ap (λ k. k + sum_by one nodes) here

covered_first : (n : Node) (rest : ℕ) → cond (is_uncovered n) 1 0 + rest ≡ 0 → is_uncovered n ≡ false
covered_first Uncovered rest none = absurd (omega (arith, none))
covered_first n rest none = refl

covered_rest : (n : Node) (rest : ℕ) → cond (is_uncovered n) 1 0 + rest ≡ 0 → rest ≡ 0
covered_rest n rest none = omega (arith, none)

-- where none is counted, none that stands is uncovered
none_stands : (nodes : List Node) (due : List Square) (box : Square) (node : Node) → count_by is_uncovered nodes ≡ 0 → StandsIn due nodes box node
    → is_uncovered node ≡ false
none_stands [] due box node none stands = absurd stands
none_stands (n ∷ nodes) [] box node none stands = absurd stands
none_stands (n ∷ nodes) (first ∷ due) box node none (inl here) =
    ap is_uncovered here.1 ∙ covered_first n (count_by is_uncovered nodes) (sym (counted_first n nodes) ∙ none)
none_stands (n ∷ nodes) (first ∷ due) box node none (inr stands) =
    none_stands nodes (due_after (first ∷ due) n) box node
    (covered_rest n (count_by is_uncovered nodes) (sym (counted_first n nodes) ∙ none)) stands

pub complete_is_sure_lem : CompleteIsSure
complete_is_sure_lem limit n h text heading cover =
    let nodes = cover.nodes in
    let begun = cover.begun in
    let tree = whole_has_tree nodes (record { due = begun.due; none_left = cover.answers.1 }) in
    let t = tree.0 in
    let sure : IsSure h t = λ box node stands.
    let here = subst (λ (ns : List Node). StandsIn (unit_square ∷ []) ns box node) tree.1 (tree_to_list t box node stands) in
    caused_is_sure h box node (begun.causes box node here) (none_stands nodes (unit_square ∷ []) box node cover.answers.2 here) in (
      length nodes,
      length h.words,
      begun.within,
      record {
        heading = h;
        tree = t;
        is_heading = heading;
        sound = sure;
        text = cover.is_text ∙ ap (λ (ns : List Node). text_of (file_lines h ns)) (sym tree.1) ∙ sym (file_text-lines h t);
        node_count = ap (λ (ns : List Node). length ns) (sym tree.1);
        word_count = refl;
      },
    )

pub complete_is_not_refused_lem : CompleteIsNotRefused
complete_is_not_refused_lem limit n h text line reason heading cover =
    sure_is_not_refused limit text line reason (complete_is_sure_lem limit n h text heading cover)
