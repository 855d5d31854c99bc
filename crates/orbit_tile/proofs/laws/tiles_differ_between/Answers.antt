use Rattle.orbit_tile.proofs.Between.{tiles_differ_between_lem}
use Rattle.orbit_tile.proofs.laws.tiles_differ_between.Goals as goal

pub returns : goal.returns
returns c = tiles_differ_between_lem
