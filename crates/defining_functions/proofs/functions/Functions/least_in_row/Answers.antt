use Rattle.std.proofs.Common.{subst}
use Rattle.defining_functions.specs.Kept.{IsFunctions}
use Rattle.defining_functions.proofs.Kept.{table_of, row_at, row_least}
use Rattle.defining_functions.proofs.functions.Functions.least_in_row.Goals as goal

pub returns-in-Some-clause-least : goal.returns-in-Some-clause-least
returns-in-Some-clause-least c =
    let h =
    subst
    (λ w. IsFunctions w c.self.inside.uppers.heights.items c.self.inside.uppers.places.items c.self.inside.lowers.heights.items
    c.self.inside.lowers.places.items c.self.inside.upper_edges.items c.self.inside.lower_edges.items c.self.inside.kept)
    c.self.view_is c.self.invariant
    in
    row_least _ _ _ _ _ _ _ _ h c.args.k c.index-upper.result.now c.in-Some.table c.index.result.now c.requires c.index-upper.ensures
    (table_of _ _ _ c.in-Some.table c.in-Some.is h.each_size) c.index.ensures

pub returns-in-Some-clause-small : goal.returns-in-Some-clause-small
returns-in-Some-clause-small c =
    let h =
    subst
    (λ w. IsFunctions w c.self.inside.uppers.heights.items c.self.inside.uppers.places.items c.self.inside.lowers.heights.items
    c.self.inside.lowers.places.items c.self.inside.upper_edges.items c.self.inside.lower_edges.items c.self.inside.kept)
    c.self.view_is c.self.invariant
    in
    (row_at _ _ _ _ _ _ _ _ h c.args.k c.index-upper.result.now c.in-Some.table c.index.result.now c.requires c.index-upper.ensures
    (table_of _ _ _ c.in-Some.table c.in-Some.is h.each_size) c.index.ensures).least_small
