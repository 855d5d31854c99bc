use Rattle.std.proofs.Common.{subst, sym, arith}
use Rattle.unfolding.specs.Shift.{HasShift}
use Rattle.defining_functions.specs.Kept.{IsFunctions}
use Rattle.defining_functions.specs.Sizes.{AreSmall}
use Rattle.defining_functions.proofs.Kept.{table_of, lower_stands, row_at, kept_sizes, made_sizes, function_small}
use Rattle.defining_functions.proofs.functions.Functions.sizes.Goals as goal

pub index-requires-in-Some : goal.index-requires-in-Some
index-requires-in-Some c =
    let h =
    subst
    (λ w. IsFunctions w c.self.inside.uppers.heights.items c.self.inside.uppers.places.items c.self.inside.lowers.heights.items
    c.self.inside.lowers.places.items c.self.inside.upper_edges.items c.self.inside.lower_edges.items c.self.inside.kept)
    c.self.view_is c.self.invariant
    in
    let row = row_at _ _ _ _ _ _ _ _ h c.args.k c.index-upper.result.now c.in-Some.table c.index.result.now c.requires.upper c.index-upper.ensures
    (table_of _ _ _ c.in-Some.table c.in-Some.is h.each_size) c.index.ensures in
    let stands = lower_stands _ _ _ _ _ _ _ _ h c.args.l c.index-lower.result.now c.requires.lower c.index-lower.ensures in
    omega (arith, row.each.count, stands.in_range)

pub returns-in-Some-clause-shift : goal.returns-in-Some-clause-shift
returns-in-Some-clause-shift c = subst HasShift c.self.view_is c.self.invariant.shift

pub returns-in-Some-clause-is : goal.returns-in-Some-clause-is
returns-in-Some-clause-is c =
    let h =
    subst
    (λ w. IsFunctions w c.self.inside.uppers.heights.items c.self.inside.uppers.places.items c.self.inside.lowers.heights.items
    c.self.inside.lowers.places.items c.self.inside.upper_edges.items c.self.inside.lower_edges.items c.self.inside.kept)
    c.self.view_is c.self.invariant
    in
    kept_sizes _ _ _ _ _ _ _ _ h c.args.k c.args.l c.index-upper.result.now c.index-lower.result.now c.requires.upper c.requires.lower
    c.index-upper.ensures c.index-lower.ensures c.in-Some.table c.index.result.now c.index-in-Some.result.now
    (table_of _ _ _ c.in-Some.table c.in-Some.is h.each_size) c.index.ensures c.index-in-Some.ensures

pub returns-in-Some-clause-small : goal.returns-in-Some-clause-small
returns-in-Some-clause-small c =
    let h =
    subst
    (λ w. IsFunctions w c.self.inside.uppers.heights.items c.self.inside.uppers.places.items c.self.inside.lowers.heights.items
    c.self.inside.lowers.places.items c.self.inside.upper_edges.items c.self.inside.lower_edges.items c.self.inside.kept)
    c.self.view_is c.self.invariant
    in
    let v = h.shift.0 in
    subst AreSmall (sym (returns-in-Some-clause-is c v h.shift.1))
    (function_small _ _ _ _ _ _ _ _ h c.args.k c.args.l c.index-upper.result.now c.index-lower.result.now c.requires.upper c.requires.lower
    c.index-upper.ensures c.index-lower.ensures v h.shift.1)

pub returns-in-None-clause-shift : goal.returns-in-None-clause-shift
returns-in-None-clause-shift c = subst HasShift c.self.view_is c.self.invariant.shift

pub returns-in-None-clause-is : goal.returns-in-None-clause-is
returns-in-None-clause-is c =
    let h =
    subst
    (λ w. IsFunctions w c.self.inside.uppers.heights.items c.self.inside.uppers.places.items c.self.inside.lowers.heights.items
    c.self.inside.lowers.places.items c.self.inside.upper_edges.items c.self.inside.lower_edges.items c.self.inside.kept)
    c.self.view_is c.self.invariant
    in
    let made = c.sizes_of_difference in
    made_sizes _ _ _ _ _ _ _ _ h c.args.k c.args.l c.index-upper.result.now c.index-lower.result.now c.requires.upper c.requires.lower
    c.index-upper.ensures c.index-lower.ensures c.index-in-None.result.now c.index-in-None-2.result.now made.result
    c.index-in-None.ensures c.index-in-None-2.ensures made.ensures.weight made.ensures.reach made.ensures.bend

pub returns-in-None-clause-small : goal.returns-in-None-clause-small
returns-in-None-clause-small c =
    let h =
    subst
    (λ w. IsFunctions w c.self.inside.uppers.heights.items c.self.inside.uppers.places.items c.self.inside.lowers.heights.items
    c.self.inside.lowers.places.items c.self.inside.upper_edges.items c.self.inside.lower_edges.items c.self.inside.kept)
    c.self.view_is c.self.invariant
    in
    let v = h.shift.0 in
    subst AreSmall (sym (returns-in-None-clause-is c v h.shift.1))
    (function_small _ _ _ _ _ _ _ _ h c.args.k c.args.l c.index-upper.result.now c.index-lower.result.now c.requires.upper c.requires.lower
    c.index-upper.ensures c.index-lower.ensures v h.shift.1)
