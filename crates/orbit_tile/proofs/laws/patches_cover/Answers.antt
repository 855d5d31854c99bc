use Rattle.orbit_tile.proofs.Leaves.{patches_cover_lem}
use Rattle.orbit_tile.proofs.laws.patches_cover.Goals as goal

pub returns : goal.returns
returns c = patches_cover_lem
