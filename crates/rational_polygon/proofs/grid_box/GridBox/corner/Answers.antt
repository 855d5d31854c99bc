use Rattle.std.proofs.Common.{◌≤◌}
use Rattle.std.proofs.Math.Pow.{pow_mono}
use Rattle.rational_polygon.specs.declared.TheConstants.{MAX_LEVEL}
use Rattle.rational_polygon.proofs.grid_box.GridBox.corner.Goals as goal

pub returns-clause-small : goal.returns-clause-small
returns-clause-small c = let low : c.args.self.level ≤ MAX_LEVEL = rw (← c.self.view_is) c.self.invariant.depth in pow_mono low
