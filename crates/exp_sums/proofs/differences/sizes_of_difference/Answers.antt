use Rattle.std.proofs.Common.{length, ap, arith}
use Rattle.exp_sums.specs.Limits.{terms_weight}
use Rattle.exp_sums.specs.Reach.{terms_reach}
use Rattle.exp_sums.specs.Bend.{terms_bend}
use Rattle.exp_sums.specs.Differences.{difference_terms}
use Rattle.exp_sums.proofs.DifferenceTerms.{CanSubtract-rests, next_weight, next_reach, next_bend, first_light, difference_light, difference_reach}
use Rattle.exp_sums.proofs.DifferenceTerms.{difference_bend, none_left, empty_is}
use Rattle.exp_sums.proofs.differences.sizes_of_difference.Goals as goal

pub sizes_of_term-more-requires-clause-light : goal.sizes_of_term-more-requires-clause-light
sizes_of_term-more-requires-clause-light c =
    let n = c.first_of_difference-next in
    first_light c.merge.first.now c.merge.second.now n.result.term n.result.first n.result.second n.ensures.leads c.merge.invariant.lists

pub overflow_add-sizes : goal.overflow_add-sizes
overflow_add-sizes c =
    let n = c.first_of_difference-next in
    let next =
    next_weight c.merge.first.now c.merge.second.now n.result.term n.result.first n.result.second n.ensures.leads
    c.merge.sizes.weight c.sizes_of_term-more.result.weight
    (terms_weight (difference_terms c.args.first.now c.args.second.now)) c.sizes_of_term-more.ensures.weight c.merge.invariant.weight
    in
    omega (arith, next, difference_light c.args.first.now c.args.second.now c.requires)

pub overflow_add-sizes-in-merge : goal.overflow_add-sizes-in-merge
overflow_add-sizes-in-merge c =
    let n = c.first_of_difference-next in
    let next =
    next_reach c.merge.first.now c.merge.second.now n.result.term n.result.first n.result.second n.ensures.leads
    c.merge.sizes.reach c.sizes_of_term-more.result.reach
    (terms_reach (difference_terms c.args.first.now c.args.second.now)) c.sizes_of_term-more.ensures.reach c.merge.invariant.reach
    in
    omega (arith, next, difference_reach c.args.first.now c.args.second.now c.requires)

pub overflow_add-sizes-in-merge-2 : goal.overflow_add-sizes-in-merge-2
overflow_add-sizes-in-merge-2 c =
    let n = c.first_of_difference-next in
    let next =
    next_bend c.merge.first.now c.merge.second.now n.result.term n.result.first n.result.second n.ensures.leads
    c.merge.sizes.bend c.sizes_of_term-more.result.bend (terms_bend
    (difference_terms c.args.first.now c.args.second.now)) c.sizes_of_term-more.ensures.bend c.merge.invariant.bend
    in
    omega (arith, next, difference_bend c.args.first.now c.args.second.now c.requires)

pub merge-preserved : goal.merge-preserved
merge-preserved c =
    let n = c.first_of_difference-next in
    let more = c.sizes_of_term-more in
    let i = c.merge.invariant in
    record {
      lists = CanSubtract-rests c.merge.first.now c.merge.second.now n.result.first n.result.second i.lists;
      weight = next_weight c.merge.first.now c.merge.second.now n.result.term n.result.first n.result.second n.ensures.leads c.merge.sizes.weight
          more.result.weight _ more.ensures.weight i.weight;
      reach = next_reach c.merge.first.now c.merge.second.now n.result.term n.result.first n.result.second n.ensures.leads c.merge.sizes.reach
          more.result.reach _ more.ensures.reach i.reach;
      bend = next_bend c.merge.first.now c.merge.second.now n.result.term n.result.first n.result.second n.ensures.leads c.merge.sizes.bend
          more.result.bend _ more.ensures.bend i.bend;
    }

pub returns : goal.returns
returns c =
    let none = empty_is (length c.merge.first.now) _ c.is_empty.ensures c.if-not-is_empty.false in
    let none' = empty_is (length c.merge.second.now) _ c.is_empty-else-not-is_empty.ensures c.if-not-is_empty-2.false in
    let empty = none_left c.merge.first.now c.merge.second.now none none' in
    let i = c.merge.invariant in
    record {
      weight = omega (arith, i.weight, ap terms_weight empty);
      reach = omega (arith, i.reach, ap terms_reach empty);
      bend = omega (arith, i.bend, ap terms_bend empty);
    }
