use Rattle.std.proofs.Common.{FitsSigned}
use Rattle.std.specs.Int.{w128}
use Rattle.std.proofs.lemmas.Int.{to_z-of_z}
use Rattle.gradient_bounds.proofs.Computed.{IsCompared, compared_of}
use Rattle.gradient_bounds.proofs.Deciding.{needed_test}
use Rattle.gradient_bounds.proofs.needs.reaches_needed.Goals as goal

computed : (c : goal.After-result-1) → IsCompared c.args.difference c.allowance.result c.args.threshold.now.parts c.product.result
computed c =
    let other : FitsSigned w128 c.product.result = record { sfits = c.product.type_inv } in
    compared_of c.args.difference c.allowance.result c.product.result c.args.threshold.now.parts c.requires.threshold.parts_at_least
    c.requires.threshold.parts_at_most c.requires.difference c.allowance.ensures.size other

pub overflow_mul-result : goal.overflow_mul-result
overflow_mul-result c =
    let is = computed c in
    let difference : FitsSigned w128 c.args.difference = c.ranges.difference in
    let allowance = is.allowance in
    let rest = is.rest in
    let denominator = is.denominator in
    simp to_z-of_z is.product

pub returns : goal.returns
returns c =
    let is = computed c in
    let difference : FitsSigned w128 c.args.difference = c.ranges.difference in
    let allowance = is.allowance in
    let rest = is.rest in
    let denominator = is.denominator in
    let product = is.product in
    let other = is.other in
    simp to_z-of_z (needed_test c.args.threshold.now c.args.sizes.now c.args.difference c.allowance.result c.product.result c.requires.threshold
    c.allowance.ensures.is c.product.ensures.is)
