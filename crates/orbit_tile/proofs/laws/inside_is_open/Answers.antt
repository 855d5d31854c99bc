use Rattle.orbit_tile.proofs.Leaves.{inside_is_open_lem}
use Rattle.orbit_tile.proofs.laws.inside_is_open.Goals as goal

pub returns : goal.returns
returns c = inside_is_open_lem
