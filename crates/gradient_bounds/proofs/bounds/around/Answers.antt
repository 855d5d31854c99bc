use Rattle.std.proofs.Common.{◌∙◌}
use Rattle.std.proofs.lemmas.Int.{to_z-of_z}
use Rattle.gradient_bounds.proofs.Sums.{around_computed}
use Rattle.gradient_bounds.proofs.bounds.around.Goals as goal

pub returns : goal.returns
returns g c =
    let is = around_computed c.args.number c.args.weight c.from-error.result c.requires.size c.requires.weight_least c.requires.weight_most
    c.from-error.ensures in
    let number = is.number in
    let factor = is.factor in
    let error = is.error in
    let low = is.low in
    let high = is.high in
    (simp to_z-of_z at c.new.ensures) ∙ (λ i. record { lo = is.lo i; hi = is.hi i })
