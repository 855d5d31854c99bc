use Rattle.std.proofs.Common.{subst₂}
use Rattle.std.specs.List.{All}
use Rattle.rat_core.specs.Fraction.{ℚ}
use Rattle.gradient_bounds.specs.Table.{IsLowAt}
use Rattle.gradient_bounds.proofs.table.fill.Goals as goal

pub returns-in-Some-Some-clause-lows : goal.returns-in-Some-Some-clause-lows
returns-in-Some-Some-clause-lows g c =
    subst₂ (λ (x y : ℚ). All (IsLowAt g.S.Scale.BITS x y) c.fill_on_grid.new.table) c.in-Some-Some.ensures.first c.in-Some-Some.ensures.second
    c.fill_on_grid.ensures.lows

pub returns-in_default-clause-lows : goal.returns-in_default-clause-lows
returns-in_default-clause-lows g c =
    subst₂ (λ (x y : ℚ). All (IsLowAt g.S.Scale.BITS x y) c.fill_anywhere.new.table) c.over_one_denominator.ensures.first
    c.over_one_denominator.ensures.second c.fill_anywhere.ensures.lows
