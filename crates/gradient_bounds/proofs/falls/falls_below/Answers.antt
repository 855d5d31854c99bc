use Rattle.std.proofs.Common.{FitsSigned, refl, pos, ◌-ℤ◌}
use Rattle.std.specs.Int.{w128}
use Rattle.std.proofs.lemmas.Int.{to_z-of_z}
use Rattle.gradient_bounds.proofs.Deciding.{negative_fits, falls_iff}
use Rattle.gradient_bounds.proofs.falls.falls_below.Goals as goal

pub returns : goal.returns
returns c =
    let z : FitsSigned w128 c.args.difference = c.ranges.difference in
    let negative : FitsSigned w128 (pos 0 -ℤ c.args.difference) = negative_fits c.args.difference c.requires.size in
    falls_iff c.args.threshold.now c.args.functions.now c.args.k c.args.l c.sizes.result
    c.reaches_needed.result (pos 0 -ℤ c.args.difference)
    (record { shift = c.sizes.ensures.shift; sizes = c.sizes.ensures.is; test = simp to_z-of_z at c.reaches_needed.ensures }) c.args.difference refl
