use Rattle.std.proofs.Common.{ap, sym, ◌∙◌}
use Rattle.exp_sums.specs.FormalPoint.{terms}
use Rattle.exp_sums.proofs.Kept.{terms-canonical}
use Rattle.exp_sums.proofs.exp_sum.ExpSum.terms.Goals as goal

pub returns-clause-all : goal.returns-clause-all
returns-clause-all c = c.as_slice.ensures ∙ sym (terms-canonical c.self.inside.terms.items c.self.invariant.canonical) ∙ ap terms c.self.view_is
