use Rattle.std.proofs.Common.{◌≤◌, sym, subst}
use Rattle.edge_words.specs.Word.{IsWord}
use Rattle.exp_sums.specs.FormalPoint.{◌-ₚ◌}
use Rattle.exp_sums.specs.Limits.{weight}
use Rattle.unfolding.specs.Corners.{lower_corner}
use Rattle.unfolding.proofs.Bounds.{ends_apart}
use Rattle.unfolding.proofs.unfolding.Unfolding.upper.Goals as goal

pub returns-clause-apart : goal.returns-clause-apart
returns-clause-apart c l place =
    subst (λ p. weight (p -ₚ lower_corner c.args.self.now l) ≤ 128) (sym c.corner.ensures.is)
    (ends_apart c.args.self.now c.args.k l c.if-k-eq1.corner _ (subst IsWord c.self.view_is c.self.invariant.word) c.requires place)
