use Rattle.std.proofs.Common.{subst}
use Rattle.edge_words.specs.Stable.{IsStable}
use Rattle.gradient_bounds.specs.Table.{PreparedWord}
use Rattle.gradient_bounds.proofs.prepared.Prepared.word.Goals as goal

pub returns-clause-stable : goal.returns-clause-stable
returns-clause-stable g c = subst (λ (p : PreparedWord). IsStable p.word) c.self.view_is c.self.invariant.stable
