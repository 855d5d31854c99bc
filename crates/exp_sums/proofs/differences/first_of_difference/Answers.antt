use Rattle.std.proofs.Common.{length, slice_index_or, pos, sym, ◌∙◌, arith}
use Rattle.exp_sums.specs.declared.terms.Term.{Term}
use Rattle.exp_sums.proofs.DifferenceTerms.{leads_alone, leads_whole, leads_first, leads_second, leads_both, leads_along, heads_light}
use Rattle.exp_sums.proofs.DifferenceTerms.{difference_fits, difference_kept, empty_is, not_empty_is}
use Rattle.exp_sums.proofs.differences.first_of_difference.Goals as goal

-- what a read past the end would give
abbrev blank : Term
blank = record { dir = record { m = pos 0; n = pos 0 }; c = pos 0 }

pub returns-then-is_empty-clause-leads : goal.returns-then-is_empty-clause-leads
returns-then-is_empty-clause-leads c =
    let ts = c.args.first.now in
    let us = c.args.second.now in
    let none = empty_is (length ts) _ c.is_empty.ensures c.if-is_empty.true in
    leads_along ts us _ _ _ _ _ _ c.of_second.ensures.term c.of_second.ensures.first c.of_second.ensures.second
    (leads_alone ts us _ c.requires.lists none (omega (arith, c.requires.some, none)))

pub overflow_sub-result : goal.overflow_sub-result
overflow_sub-result c =
    let some = not_empty_is (length c.args.first.now) _ c.is_empty.ensures c.if-is_empty.false in
    let some' = not_empty_is (length c.args.second.now) _ c.is_empty-2.ensures c.if-is_empty-2.false in
    difference_fits (slice_index_or c.args.first.now 0 blank).c (slice_index_or c.args.second.now 0 blank).c
    (heads_light c.args.first.now c.args.second.now blank blank c.requires.lists some some')

pub returns-in-Less-clause-leads : goal.returns-in-Less-clause-leads
returns-in-Less-clause-leads c =
    let ts = c.args.first.now in
    let us = c.args.second.now in
    let some = not_empty_is (length ts) _ c.is_empty.ensures c.if-is_empty.false in
    let some' = not_empty_is (length us) _ c.is_empty-2.ensures c.if-is_empty-2.false in
    leads_along ts us _ _ _ _ _ _ c.of_first-in-Less.ensures.term c.of_first-in-Less.ensures.first c.of_first-in-Less.ensures.second
    (leads_first ts us _ c.requires.lists some some' (sym c.cmp.ensures ∙ c.in-Less.is))

pub returns-in-Greater-clause-leads : goal.returns-in-Greater-clause-leads
returns-in-Greater-clause-leads c =
    let ts = c.args.first.now in
    let us = c.args.second.now in
    let some = not_empty_is (length ts) _ c.is_empty.ensures c.if-is_empty.false in
    let some' = not_empty_is (length us) _ c.is_empty-2.ensures c.if-is_empty-2.false in
    leads_along ts us _ _ _ _ _ _ c.of_second-in-Greater.ensures.term c.of_second-in-Greater.ensures.first c.of_second-in-Greater.ensures.second
    (leads_second ts us _ c.requires.lists some some' (sym c.cmp.ensures ∙ c.in-Greater.is))

pub returns-in-Equal-clause-leads : goal.returns-in-Equal-clause-leads
returns-in-Equal-clause-leads c =
    let ts = c.args.first.now in
    let us = c.args.second.now in
    let some = not_empty_is (length ts) _ c.is_empty.ensures c.if-is_empty.false in
    let some' = not_empty_is (length us) _ c.is_empty-2.ensures c.if-is_empty-2.false in
    leads_both ts us blank _ c.requires.lists some some' (sym c.cmp.ensures ∙ c.in-Equal.is)
    (difference_kept (slice_index_or ts 0 blank).c (slice_index_or us 0 blank).c (heads_light ts us blank blank c.requires.lists some some'))
