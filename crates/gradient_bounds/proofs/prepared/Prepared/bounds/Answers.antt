use Rattle.std.proofs.lemmas.Int.{to_z-of_z}
use Rattle.gradient_bounds.proofs.Tests.{IsPair, pair, fit_together}
use Rattle.gradient_bounds.proofs.prepared.Prepared.bounds.Given as given
use Rattle.gradient_bounds.proofs.prepared.Prepared.bounds.Goals as goal

pub overflow_sub-index : goal.overflow_sub-index
overflow_sub-index g c =
    let fit = fit_together g.S.Scale.BITS c.self.inside.word c.self.inside.functions c.self.inside.point c.self.inside.table.items
    c.self.inside.uppers.items c.self.inside.lowers.items c.self.invariant c.args.self.now c.self.view_is c.args.k c.args.l c.index.result.now
    c.index-2.result.now c.requires.upper c.requires.lower c.index.ensures c.index-2.ensures in
    let upper = fit.upper in
    let lower = fit.lower in
    simp to_z-of_z fit.difference

is_pair_before : (g : given.Over) (c : goal.After-weight g)
    → IsPair g.S.Scale.BITS c.self.inside.word c.self.inside.functions c.self.inside.point c.self.inside.table.items
    c.self.inside.uppers.items
    c.self.inside.lowers.items c.self.invariant c.args.self.now c.self.view_is c.args.k c.args.l c.index.result.now c.index-2.result.now c.weight.result
is_pair_before g c =
    pair g.S.Scale.BITS c.self.inside.word c.self.inside.functions c.self.inside.point c.self.inside.table.items c.self.inside.uppers.items
    c.self.inside.lowers.items c.self.invariant c.args.self.now c.self.view_is c.args.k c.args.l c.index.result.now c.index-2.result.now c.weight.result
    c.requires.upper c.requires.lower c.index.ensures c.index-2.ensures c.weight.ensures.is c.weight.ensures.limit

pub around-requires-clause-weight_least : goal.around-requires-clause-weight_least
around-requires-clause-weight_least g c =
    let is = is_pair_before g c in
    let fits = is.bound.weight_fits in
    simp to_z-of_z is.bound.least

is_pair : (g : given.Over) (c : goal.After-around g)
    → IsPair g.S.Scale.BITS c.self.inside.word c.self.inside.functions c.self.inside.point c.self.inside.table.items
    c.self.inside.uppers.items
    c.self.inside.lowers.items c.self.invariant c.args.self.now c.self.view_is c.args.k c.args.l c.index.result.now c.index-2.result.now c.weight.result
is_pair g c =
    pair g.S.Scale.BITS c.self.inside.word c.self.inside.functions c.self.inside.point c.self.inside.table.items c.self.inside.uppers.items
    c.self.inside.lowers.items c.self.invariant c.args.self.now c.self.view_is c.args.k c.args.l c.index.result.now c.index-2.result.now c.weight.result
    c.requires.upper c.requires.lower c.index.ensures c.index-2.ensures c.weight.ensures.is c.weight.ensures.limit

pub returns-clause-shift : goal.returns-clause-shift
returns-clause-shift g c = (is_pair g c).bound.shift

pub returns-clause-ends : goal.returns-clause-ends
returns-clause-ends g c =
    let is = is_pair g c in
    let upper = is.upper_fits in
    let lower = is.lower_fits in
    let number = is.bound.number_fits in
    let fits = is.bound.weight_fits in
    is.bound.ends c.around.result (simp to_z-of_z at c.around.ensures)

pub returns-clause-holds : goal.returns-clause-holds
returns-clause-holds g c =
    let is = is_pair g c in
    let upper = is.upper_fits in
    let lower = is.lower_fits in
    let number = is.bound.number_fits in
    let fits = is.bound.weight_fits in
    is.bound.holds c.around.result (simp to_z-of_z at c.around.ensures)
