-- What is prepared is the word.
use Rattle.std.proofs.Common.{ap, ◌∙◌, subst, ℕ, List}
use Rattle.gradient_bounds.specs.Table.{PreparedWord}
use Rattle.std.specs.Prelude.{IfOk}
use Rattle.orbit_tile.specs.Tile.{IsTile}
use Rattle.orbit_tile.proofs.tiling.tile.Goals as goal

pub returns-clause-tile : goal.returns-clause-tile
returns-clause-tile c =
    subst (λ (w : List ℕ). IfOk c.patches.result (λ patches. IsTile w c.args.depth patches.items))
    (ap (λ (p : PreparedWord). p.word) c.keep_sizes.ensures ∙ c.in_ok-prepared.ensures.word) c.patches.ensures.tile
