use Rattle.std.proofs.lemmas.Int.{to_z-of_z}
use Rattle.gradient_bounds.proofs.Computed.{IsMargin, margin_of}
use Rattle.gradient_bounds.proofs.needs.margin.Goals as goal

computed : (c : goal.After-from) → IsMargin c.args.weight c.args.threshold.now.slack c.from.result
computed c = margin_of c.args.weight c.args.threshold.now.slack c.from.result c.requires.threshold.slack_at_least c.requires.threshold.slack_at_most
    c.requires.weight c.from.ensures

pub overflow_mul-result : goal.overflow_mul-result
overflow_mul-result c =
    let is = computed c in
    let slack = is.slack in
    let z = is.weight in
    let factor = is.factor in
    simp to_z-of_z is.product

pub returns-clause-is : goal.returns-clause-is
returns-clause-is c =
    let is = computed c in
    let slack = is.slack in
    let z = is.weight in
    let factor = is.factor in
    let product = is.product in
    simp to_z-of_z is.is

pub returns-clause-size : goal.returns-clause-size
returns-clause-size c =
    let is = computed c in
    let slack = is.slack in
    let z = is.weight in
    let factor = is.factor in
    let product = is.product in
    simp to_z-of_z is.size
