use Rattle.orbit_tile.proofs.Leaves.{beyond_holds_none_lem}
use Rattle.orbit_tile.proofs.laws.beyond_holds_none.Goals as goal

pub returns : goal.returns
returns c = beyond_holds_none_lem
