use Rattle.rational_polygon.proofs.Separation.{apart_has_none}
use Rattle.rational_polygon.proofs.laws.apart_holds_none.Goals as goal

pub returns : goal.returns
returns c = apart_has_none
