use Rattle.std.proofs.Common.{FitsSigned}
use Rattle.std.specs.Int.{w128}
use Rattle.std.proofs.lemmas.Int.{to_z-of_z}
use Rattle.gradient_bounds.proofs.Deciding.{at_most_iff}
use Rattle.gradient_bounds.proofs.decision.is_at_least.Goals as goal

pub returns : goal.returns
returns c =
    let difference : FitsSigned w128 c.args.difference = c.ranges.difference in
    let most : FitsSigned w128 c.args.most = c.ranges.most in
    simp to_z-of_z (at_most_iff c.args.most c.args.difference)
