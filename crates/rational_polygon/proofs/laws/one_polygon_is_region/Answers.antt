use Rattle.rational_polygon.proofs.Regions.{one_is_region}
use Rattle.rational_polygon.proofs.laws.one_polygon_is_region.Goals as goal

pub returns : goal.returns
returns c = one_is_region
