use Rattle.std.proofs.Common.{pos, ◌-ℤ◌, ◌≤ℤ◌, FitsSigned}
use Rattle.std.specs.Int.{w128}
use Rattle.std.proofs.lemmas.Int.{to_z-of_z}
use Rattle.gradient_bounds.specs.Decision.{needed_at, needed_by, SomeInRowFalls}
use Rattle.gradient_bounds.proofs.Deciding.{at_most_iff, fails, false_not, negative_fits, none_in_row, none_so_deep, row_least}
use Rattle.gradient_bounds.proofs.falls.row_falls.Goals as goal

pub returns-then-least-ge0 : goal.returns-then-least-ge0
returns-then-least-ge0 c =
    let w = c.args.functions.now in
    let k = c.args.k in
    let us = c.args.uppers.now in
    let ls = c.args.lowers.now in
    let N = needed_by c.args.threshold.now in
    let least : FitsSigned w128 c.difference-least.result = record { sfits = c.difference-least.type_inv } in
    fails (SomeInRowFalls N w us ls k)
    (none_in_row c.args.threshold.now w us ls k c.difference-least.result c.requires.threshold c.requires.shift
    (λ l lower. row_least w us ls k c.args.nearest l c.difference-least.result c.difference-least.ensures.is c.requires.greatest lower)
    ((at_most_iff (pos 0) c.difference-least.result).0 (simp to_z-of_z at c.if-least-ge0.true)))

pub returns-then-not-reaches_needed : goal.returns-then-not-reaches_needed
returns-then-not-reaches_needed c =
    let w = c.args.functions.now in
    let k = c.args.k in
    let us = c.args.uppers.now in
    let ls = c.args.lowers.now in
    let t = c.args.threshold.now in
    let s = c.least_in_row.result in
    let z = c.difference-least.result in
    let least : FitsSigned w128 c.difference-least.result = record { sfits = c.difference-least.type_inv } in
    let negative : FitsSigned w128 (pos 0 -ℤ c.difference-least.result) = negative_fits c.difference-least.result c.difference-least.ensures.size in
    fails (SomeInRowFalls (needed_by t) w us ls k)
    (none_so_deep t w us ls k z s c.requires.threshold c.requires.shift
    (λ l lower. row_least w us ls k c.args.nearest l z c.difference-least.ensures.is c.requires.greatest lower) c.least_in_row.ensures.least
    (false_not (needed_at t s ≤ℤ (pos 0 -ℤ z)) (simp to_z-of_z at c.if-not-reaches_needed.ensures)))
