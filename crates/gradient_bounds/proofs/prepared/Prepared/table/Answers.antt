use Rattle.std.proofs.Common.{ap, subst, sym, ◌∙◌}
use Rattle.std.specs.Prelude.{IfSome}
use Rattle.std.specs.List.{All}
use Rattle.rat_core.specs.Written.{value}
use Rattle.gradient_bounds.specs.Table.{PreparedWord, IsLowAt}
use Rattle.gradient_bounds.proofs.Tests.{filled_lows}
use Rattle.gradient_bounds.proofs.prepared.Prepared.table.Goals as goal

pub returns-clause-lows : goal.returns-clause-lows
returns-clause-lows g c =
    let bits = g.S.Scale.BITS in
    subst (λ es. IfSome c.args.self.now.point (λ p. All (IsLowAt bits (value p.0) (value p.1)) es))
    (sym (c.deref.ensures.value ∙ ap (λ (p : PreparedWord). p.table) c.self.view_is))
    (subst (λ (n : PreparedWord). IfSome n.point (λ p. All (IsLowAt bits (value p.0) (value p.1)) n.table)) c.self.view_is
    (filled_lows bits c.self.inside.point c.self.inside.table.items c.self.invariant.filled))
