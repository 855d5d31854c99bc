use Rattle.trig_meaning.proofs.Coordinates.{cross_products_lem}
use Rattle.trig_meaning.proofs.laws.cross_products.Goals as goal

pub returns : goal.returns
returns c = cross_products_lem
