use Rattle.std.proofs.lemmas.Int.{to_z-of_z}
use Rattle.defining_functions.specs.Heights.{lower_height}
use Rattle.gradient_bounds.proofs.Tests.{IsBound, lower_bound}
use Rattle.gradient_bounds.proofs.prepared.Prepared.lower_bounds.Given as given
use Rattle.gradient_bounds.proofs.prepared.Prepared.lower_bounds.Goals as goal

is_bound_before : (g : given.Over) (c : goal.After-weight g) → IsBound g.S.Scale.BITS c.args.self.now
    (λ w v. lower_height v w c.args.l) c.index.result.now c.weight.result
is_bound_before g c =
    lower_bound g.S.Scale.BITS c.self.inside.word c.self.inside.functions c.self.inside.point c.self.inside.table.items
    c.self.inside.uppers.items
    c.self.inside.lowers.items c.self.invariant c.args.self.now c.self.view_is c.args.l c.index.result.now c.weight.result c.lower_height.result.now
    c.requires.place c.index.ensures c.lower_height.ensures.is c.weight.ensures c.lower_height.ensures.limits.light

pub around-requires-clause-weight_least : goal.around-requires-clause-weight_least
around-requires-clause-weight_least g c =
    let is = is_bound_before g c in
    let fits = is.weight_fits in
    simp to_z-of_z is.least

is_bound : (g : given.Over) (c : goal.After-around g) → IsBound g.S.Scale.BITS c.args.self.now
    (λ w v. lower_height v w c.args.l) c.index.result.now c.weight.result
is_bound g c =
    lower_bound g.S.Scale.BITS c.self.inside.word c.self.inside.functions c.self.inside.point c.self.inside.table.items
    c.self.inside.uppers.items
    c.self.inside.lowers.items c.self.invariant c.args.self.now c.self.view_is c.args.l c.index.result.now c.weight.result c.lower_height.result.now
    c.requires.place c.index.ensures c.lower_height.ensures.is c.weight.ensures c.lower_height.ensures.limits.light

pub returns-clause-shift : goal.returns-clause-shift
returns-clause-shift g c = (is_bound g c).shift

pub returns-clause-ends : goal.returns-clause-ends
returns-clause-ends g c =
    let is = is_bound g c in
    let number = is.number_fits in
    let fits = is.weight_fits in
    is.ends c.around.result (simp to_z-of_z at c.around.ensures)

pub returns-clause-holds : goal.returns-clause-holds
returns-clause-holds g c =
    let is = is_bound g c in
    let number = is.number_fits in
    let fits = is.weight_fits in
    is.holds c.around.result (simp to_z-of_z at c.around.ensures)
