use Rattle.std.proofs.Common.{◌≡◌, pos, map}
use Rattle.std.specs.List.{All, AllWithin}
use Rattle.rat_core.specs.Fraction.{◌÷◌}
use Rattle.exp_sums.specs.Limits.{IsNear}
use Rattle.gradient_bounds.specs.declared.sine_low.SineLow.{SineLow}
use Rattle.sine_fixed.specs.SineTables.{half_turn}
use Rattle.gradient_bounds.specs.Table.{IsLowAt}
use Rattle.gradient_bounds.specs.Kept.{IsSmallEntry}
use Rattle.gradient_bounds.proofs.table.fill_on_grid.Given as goal

-- the entries so far have their numbers, and all have the directions that they had
abbrev pub invariant-loop-entry : goal.invariant-loop-entry
invariant-loop-entry g l =
    (map (λ (e : SineLow). e.dir) l.table ≡ map (λ (e : SineLow). e.dir) l.initial.table)
    × (All (λ (e : SineLow). IsNear 130 e.dir) l.table)
    × (AllWithin (IsLowAt g.S.Scale.BITS (pos l.at.first ÷ half_turn) (pos l.at.second ÷ half_turn)) l.table 0 l.entry-index)
    × (AllWithin IsSmallEntry l.table 0 l.entry-index)
