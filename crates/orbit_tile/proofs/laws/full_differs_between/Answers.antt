use Rattle.orbit_tile.proofs.Between.{full_differs_between_lem}
use Rattle.orbit_tile.proofs.laws.full_differs_between.Goals as goal

pub returns : goal.returns
returns c = full_differs_between_lem
