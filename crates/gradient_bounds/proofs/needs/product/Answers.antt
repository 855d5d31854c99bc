use Rattle.std.proofs.Common.{ap, ◌∙◌, pos, ◌*ℤ◌}
use Rattle.std.proofs.lemmas.Int.{to_z-of_z}
use Rattle.gradient_bounds.specs.Decision.{measured}
use Rattle.gradient_bounds.proofs.Computed.{IsProduct, product_of, measured_small}
use Rattle.gradient_bounds.proofs.needs.product.Goals as goal

computed : (c : goal.After-from) → IsProduct c.args.threshold.now.rate c.from.result
computed c =
    let t = c.args.threshold.now in
    let s = c.args.sizes.now in
    product_of t.rate c.from.result (measured t.measure s) c.requires.threshold.rate_at_least c.requires.threshold.rate_at_most
    (measured_small t.measure s c.requires.sizes) (c.from.ensures ∙ ap (λ n. pos n) c.size_by.ensures)

pub overflow_mul-result : goal.overflow_mul-result
overflow_mul-result c =
    let is = computed c in
    let rate = is.rate in
    let factor = is.factor in
    simp to_z-of_z is.product

pub returns-clause-is : goal.returns-clause-is
returns-clause-is c =
    let is = computed c in
    let rate = is.rate in
    let factor = is.factor in
    let product = is.product in
    simp to_z-of_z (ap (λ z. c.args.threshold.now.rate *ℤ z) (c.from.ensures ∙ ap (λ n. pos n) c.size_by.ensures))

pub returns-clause-at_least : goal.returns-clause-at_least
returns-clause-at_least c =
    let is = computed c in
    let rate = is.rate in
    let factor = is.factor in
    let product = is.product in
    simp to_z-of_z is.at_least

pub returns-clause-size : goal.returns-clause-size
returns-clause-size c =
    let is = computed c in
    let rate = is.rate in
    let factor = is.factor in
    let product = is.product in
    simp to_z-of_z is.size
