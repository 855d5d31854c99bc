use Rattle.std.proofs.Common.{◌≤◌, sym, subst}
use Rattle.edge_words.specs.Word.{IsWord}
use Rattle.exp_sums.specs.FormalPoint.{◌-ₚ◌}
use Rattle.exp_sums.specs.Limits.{weight}
use Rattle.unfolding.specs.Corners.{upper_corner}
use Rattle.unfolding.proofs.Bounds.{ends_apart}
use Rattle.unfolding.proofs.unfolding.Unfolding.lower.Goals as goal

pub returns-clause-apart : goal.returns-clause-apart
returns-clause-apart c l place =
    subst (λ p. weight (upper_corner c.args.self.now l -ₚ p) ≤ 128) (sym c.corner.ensures.is)
    (ends_apart c.args.self.now l c.args.k _ c.if-k-eq1.corner (subst IsWord c.self.view_is c.self.invariant.word) place c.requires)
