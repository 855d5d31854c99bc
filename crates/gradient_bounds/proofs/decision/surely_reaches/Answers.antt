use Rattle.std.proofs.Common.{◌↔◌, sym, subst, FitsSigned}
use Rattle.std.specs.Prelude.{IsTrue}
use Rattle.std.specs.Int.{w128}
use Rattle.std.proofs.lemmas.Int.{to_z-of_z}
use Rattle.gradient_bounds.specs.Decision.{needed_by, Reaches}
use Rattle.gradient_bounds.proofs.Deciding.{holds, reaches_more}
use Rattle.gradient_bounds.proofs.decision.surely_reaches.Goals as goal

pub returns-then-is_at_least : goal.returns-then-is_at_least
returns-then-is_at_least c =
    let N = needed_by c.args.threshold.now in
    let difference : FitsSigned w128 c.args.difference = c.ranges.difference in
    let most : FitsSigned w128 c.args.most = c.ranges.most in
    let iff = simp to_z-of_z at c.is_at_least.ensures in
    let w = c.args.functions.now in
    subst (λ b. IsTrue b ↔ Reaches N w c.args.k c.args.l c.args.difference) (sym c.if-is_at_least.true)
    (holds (Reaches N w c.args.k c.args.l c.args.difference)
    (reaches_more N c.args.functions.now c.args.k c.args.l c.args.most c.args.difference (iff.0 c.if-is_at_least.true) c.requires.most))

pub returns-else-is_at_least : goal.returns-else-is_at_least
returns-else-is_at_least c =
    let difference : FitsSigned w128 c.args.difference = c.ranges.difference in
    simp to_z-of_z at c.reaches.ensures
