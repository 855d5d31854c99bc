use Rattle.orbit_tile.proofs.Leaves.{outside_is_not_lem}
use Rattle.orbit_tile.proofs.laws.outside_is_not.Goals as goal

pub returns : goal.returns
returns c = outside_is_not_lem
