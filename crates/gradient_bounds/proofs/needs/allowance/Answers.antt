use Rattle.std.proofs.Common.{◌*◌, pos, ◌+ℤ◌, ap, ◌∙◌}
use Rattle.std.proofs.lemmas.Int.{to_z-of_z}
use Rattle.gradient_bounds.proofs.Computed.{IsAllowance, allowance_of}
use Rattle.gradient_bounds.proofs.needs.allowance.Goals as goal

computed : (c : goal.After-margin) → IsAllowance c.args.weight c.from.result c.margin.result
computed c = allowance_of c.args.weight c.from.result c.margin.result c.requires.weight c.from.ensures c.margin.ensures.size

pub overflow_add-result : goal.overflow_add-result
overflow_add-result c =
    let is = computed c in
    let weight = is.weight in
    let margin = is.margin in
    let errors = is.errors in
    simp to_z-of_z is.sum

pub returns-clause-is : goal.returns-clause-is
returns-clause-is c =
    let is = computed c in
    let weight = is.weight in
    let margin = is.margin in
    let errors = is.errors in
    let sum = is.sum in
    simp to_z-of_z (is.is ∙ ap (λ z. pos (256 * c.args.weight) +ℤ z) c.margin.ensures.is)

pub returns-clause-size : goal.returns-clause-size
returns-clause-size c =
    let is = computed c in
    let weight = is.weight in
    let margin = is.margin in
    let errors = is.errors in
    let sum = is.sum in
    simp to_z-of_z is.size
