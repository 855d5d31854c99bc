use Rattle.std.proofs.Common.{ℕ, FitsSigned}
use Rattle.std.specs.Int.{w128}
use Rattle.std.proofs.lemmas.Int.{to_z-of_z}
use Rattle.edge_words.specs.Letters.{IsPlace}
use Rattle.gradient_bounds.specs.Decision.{needed_by, difference, Reaches}
use Rattle.gradient_bounds.proofs.Deciding.{holds, row_reached_by}
use Rattle.gradient_bounds.proofs.decision.row_reaches.Goals as goal

pub returns-then-is_at_least : goal.returns-then-is_at_least
returns-then-is_at_least c =
    let N = needed_by c.args.threshold.now in
    let least : FitsSigned w128 c.difference-least.result = record { sfits = c.difference-least.type_inv } in
    let most : FitsSigned w128 c.args.most = c.ranges.most in
    let iff = simp to_z-of_z at c.is_at_least.ensures in
    holds ((l : ℕ) → IsPlace c.args.functions.now l → Reaches N c.args.functions.now c.args.k l (difference c.args.uppers.now c.args.lowers.now c.args.k l))
    (row_reached_by N c.args.functions.now c.args.uppers.now c.args.lowers.now c.args.k c.args.nearest c.difference-least.result c.args.most
    c.difference-least.ensures.is c.requires.greatest c.requires.most (iff.0 c.if-is_at_least.true))

pub returns-then-is_at_least-2 : goal.returns-then-is_at_least-2
returns-then-is_at_least-2 c =
    let N = needed_by c.args.threshold.now in
    let least : FitsSigned w128 c.difference-least.result = record { sfits = c.difference-least.type_inv } in
    let most : FitsSigned w128 c.enough_in_row-most.result = record { sfits = c.enough_in_row-most.type_inv } in
    let iff = simp to_z-of_z at c.is_at_least-2.ensures in
    holds ((l : ℕ) → IsPlace c.args.functions.now l → Reaches N c.args.functions.now c.args.k l (difference c.args.uppers.now c.args.lowers.now c.args.k l))
    (row_reached_by N c.args.functions.now c.args.uppers.now c.args.lowers.now c.args.k c.args.nearest c.difference-least.result c.enough_in_row-most.result
    c.difference-least.ensures.is c.requires.greatest c.enough_in_row-most.ensures (iff.0 c.if-is_at_least-2.true))

pub each_in_row_reaches-requires-clause-most : goal.each_in_row_reaches-requires-clause-most
each_in_row_reaches-requires-clause-most c =
    let most : FitsSigned w128 c.enough_in_row-most.result = record { sfits = c.enough_in_row-most.type_inv } in
    simp to_z-of_z c.enough_in_row-most.ensures
