use Rattle.rational_polygon.proofs.Regions.{apart_region_has_none}
use Rattle.rational_polygon.proofs.laws.apart_region_holds_none.Goals as goal

pub returns : goal.returns
returns c = apart_region_has_none
