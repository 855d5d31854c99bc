-- The words are united, the nodes of the second file have their numbers, and the overlay is folded.
use Rattle.std.proofs.Common.{◌≡◌, ap, sym, ◌∙◌, subst, ℕ, List, length, map}
use Rattle.covering_file.specs.declared.TheConstants.{MAX_NODES}
use Rattle.covering_file.specs.Header.{Heading, IsHeading}
use Rattle.covering_file.specs.TreeFile.{TreeFile}
use Rattle.std.proofs.lemmas.List.{length-map}
use Rattle.rational_polygon.specs.Square.{unit_square}
use Rattle.cover_merge.specs.Fold.{IsFold}
use Rattle.cover_merge.specs.Steps.{number_at}
use Rattle.cover_merge.specs.Union.{with_number}
use Rattle.cover_merge.proofs.Laid.{all_listed, all_numbered, may_be_renumbered, merged_is_heading, merged_heading, laid_tree, laid_nodes, laid_within, laid_together}
use Rattle.cover_merge.proofs.Refused.{written_back}
use Rattle.cover_merge.proofs.merging.lay_together.Goals as goal

pub numbers_of-numbers-requires-clause-listed : goal.numbers_of-numbers-requires-clause-listed
numbers_of-numbers-requires-clause-listed c =
    all_listed c.args.first.heading.words c.args.second.heading.words c.args.union.items c.as_slice.result.now c.words.result.now c.requires.union
    c.as_slice.ensures.value (c.words.ensures.all ∙ ap (λ (h : Heading). h.words) c.header.ensures.value)

pub renumber-requires : goal.renumber-requires
renumber-requires c =
    may_be_renumbered MAX_NODES c.args.second c.as_mut_slice.result.now c.as_slice-2.result.now c.parts-second_header.ensures.is_file
    (c.as_mut_slice.ensures.value ∙ c.parts-second_header.ensures.nodes)
    (ap length c.as_slice-2.ensures ∙ c.numbers_of-numbers.ensures.count ∙ ap length c.words.ensures.all
    ∙ ap (λ (h : Heading). length h.words) c.header.ensures.value)

pub merged_header-header-requires : goal.merged_header-header-requires
merged_header-header-requires c =
    let g = c.args.second.heading in
    let deep : c.depth.result ≡ g.depth = c.depth.ensures.value ∙ ap (λ (h : Heading). h.depth) c.parts-second_header.ensures.header in
    subst (λ (h : Heading). IsHeading (merged_heading h c.depth.result c.args.union.items)) (sym c.parts-first_header.ensures.header)
    (subst (λ (d : ℕ). IsHeading (merged_heading c.args.first.heading d c.args.union.items)) (sym deep)
    (merged_is_heading c.args.first.heading g c.args.union.items c.parts-first_header.ensures.is_file.is_heading
    c.parts-second_header.ensures.is_file.is_heading c.requires.union c.requires.few))

pub fold-requires-clause-tree : goal.fold-requires-clause-tree
fold-requires-clause-tree c =
    let is_f = c.parts-first_header.ensures.is_file in
    let is_g = c.parts-second_header.ensures.is_file in
    let numbers = c.as_slice-2.result.now in
    let numbered : c.renumber.new.nodes ≡ map (with_number (number_at numbers)) c.args.second.nodes =
    c.renumber.ensures ∙ ap (map (with_number (number_at numbers))) (c.as_mut_slice.ensures.value ∙ c.parts-second_header.ensures.nodes) in
    let count : length c.renumber.new.nodes ≡ c.parts-second_header.result.1.len =
    ap length c.renumber.ensures ∙ length-map c.as_mut_slice.result.now (with_number (number_at numbers)) ∙ c.as_mut_slice.ensures.len in (
      laid_tree is_f is_g numbers,
      laid_nodes MAX_NODES c.args.first c.args.second is_f is_g numbers c.as_slice-3.result.now c.as_slice-4.result.now c.in_ok-laid.laid.items
          (c.as_slice-3.ensures.value ∙ c.parts-first_header.ensures.nodes)
          (c.as_slice-4.ensures.value ∙ written_back c.renumber.new.nodes _ _ count ∙ numbered) c.in_ok-laid.ensures
          ∙ sym c.as_slice-5.ensures.value,
      laid_within MAX_NODES c.args.first c.args.second is_f is_g numbers,
    )

pub returns : goal.returns
returns c =
    let f = c.args.first in
    let g = c.args.second in
    let is_f = c.parts-first_header.ensures.is_file in
    let is_g = c.parts-second_header.ensures.is_file in
    let numbers = c.as_slice-2.result.now in
    let numbered : c.renumber.new.nodes ≡ map (with_number (number_at numbers)) c.args.second.nodes =
    c.renumber.ensures ∙ ap (map (with_number (number_at numbers))) (c.as_mut_slice.ensures.value ∙ c.parts-second_header.ensures.nodes) in
    let count : length c.renumber.new.nodes ≡ c.parts-second_header.result.1.len =
    ap length c.renumber.ensures ∙ length-map c.as_mut_slice.result.now (with_number (number_at numbers)) ∙ c.as_mut_slice.ensures.len in
    let union = c.args.union.items in
    let r : TreeFile = record { heading = c.merged_header-header.result; nodes = c.in_ok-nodes.nodes.items } in
    let deep : c.depth.result ≡ g.heading.depth = c.depth.ensures.value ∙ ap (λ (h : Heading). h.depth) c.parts-second_header.ensures.header in
    let heading : r.heading ≡ merged_heading f.heading g.heading.depth union =
    c.merged_header-header.ensures ∙ ap (λ (h : Heading). merged_heading h c.depth.result union) c.parts-first_header.ensures.header
    ∙ ap (λ (d : ℕ). merged_heading f.heading d union) deep in
    let tested : c.as_mut_slice-2.result.now ≡ union =
    c.as_mut_slice-2.ensures.value ∙ c.in_ok-tests.ensures ∙ ap (λ (h : Heading). h.words) heading in
    let folded = c.in_ok-nodes.ensures.folded (laid_tree is_f is_g numbers)
    (laid_nodes MAX_NODES f g is_f is_g numbers c.as_slice-3.result.now c.as_slice-4.result.now c.in_ok-laid.laid.items
    (c.as_slice-3.ensures.value ∙ c.parts-first_header.ensures.nodes)
    (c.as_slice-4.ensures.value ∙ written_back c.renumber.new.nodes _ _ count ∙ numbered) c.in_ok-laid.ensures ∙ sym c.as_slice-5.ensures.value) in
    laid_together MAX_NODES f g r is_f is_g union numbers c.requires.alike c.requires.union c.requires.few heading
    (all_numbered g.heading.words c.words.result.now union c.as_slice.result.now numbers c.numbers_of-numbers.result.items c.as_slice.ensures.value
    (c.words.ensures.all ∙ ap (λ (h : Heading). h.words) c.header.ensures.value) c.as_slice-2.ensures c.numbers_of-numbers.ensures.numbers) folded.0
    (subst (λ (ws : List (List ℕ)). IsFold ws unit_square (laid_tree is_f is_g numbers) folded.0) tested folded.1) folded.2
