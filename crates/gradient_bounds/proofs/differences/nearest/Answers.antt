use Rattle.std.proofs.Common.{◌-◌, ◌≤ℤ◌, slice_index_or, pos, arith}
use Rattle.edge_words.specs.Letters.{IsPlace}
use Rattle.defining_functions.specs.Heights.{upper_height, lower_height}
use Rattle.gradient_bounds.proofs.AllEdges.{all_numbers}
use Rattle.gradient_bounds.proofs.Deciding.{differences_in_order}
use Rattle.gradient_bounds.proofs.differences.nearest.Goals as goal

pub least-requires-clause-some : goal.least-requires-clause-some
least-requires-clause-some c =
    let first : IsPlace c.args.functions.now 1 = (omega arith, omega (arith, c.if-prove.false, c.letters-letters.ensures.count)) in
    let any = c.upper_edges.ensures.heights.each 1 first in
    omega (arith, any.2)

pub greatest-requires-clause-some : goal.greatest-requires-clause-some
greatest-requires-clause-some c =
    let first : IsPlace c.args.functions.now 1 = (omega arith, omega (arith, c.if-prove.false, c.letters-letters.ensures.count)) in
    let any = c.lower_edges.ensures.heights.each 1 first in
    omega (arith, any.2)

pub returns-clause-greatest : goal.returns-clause-greatest
returns-clause-greatest c =
    all_numbers c.args.functions.now lower_height c.args.lowers.now c.lower_edges.result.now
    (λ z. z ≤ℤ slice_index_or c.args.lowers.now (c.greatest.result - 1) (pos 0)) c.requires.lowers c.lower_edges.ensures.heights c.greatest.ensures.greatest

pub returns-clause-least : goal.returns-clause-least
returns-clause-least c = λ i j p q.
    differences_in_order c.args.uppers.now c.args.lowers.now c.least.result c.greatest.result i j
    (all_numbers c.args.functions.now upper_height c.args.uppers.now c.upper_edges.result.now
    (λ z. slice_index_or c.args.uppers.now (c.least.result - 1) (pos 0) ≤ℤ z) c.requires.uppers c.upper_edges.ensures.heights c.least.ensures.least i p)
    (returns-clause-greatest c j q)
