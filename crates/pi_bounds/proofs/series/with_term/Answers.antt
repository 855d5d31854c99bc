use Rattle.std.proofs.Common.{sym, subst, ◌+◌, pos, ◌+ℤ◌, ◌≤ℤ◌}
use Rattle.directed_fixed.specs.Ends.{Ends}
use Rattle.directed_fixed.proofs.Sizes.{sum_width, difference_width}
use Rattle.pi_bounds.proofs.series.with_term.Goals as goal

pub returns-then-is_added-clause-width : goal.returns-then-is_added-clause-width
returns-then-is_added-clause-width g c =
    λ w h. subst (λ (x : Ends). x.hi ≤ℤ (x.lo +ℤ pos (w + 2))) (sym c.add.ensures.ends) (sum_width c.args.sum c.args.term w 2 h c.requires.term.width)

pub returns-else-is_added-clause-width : goal.returns-else-is_added-clause-width
returns-else-is_added-clause-width g c =
    λ w h. subst (λ (x : Ends). x.hi ≤ℤ (x.lo +ℤ pos (w + 2))) (sym c.sub.ensures.ends) (difference_width c.args.sum c.args.term w 2 h c.requires.term.width)
