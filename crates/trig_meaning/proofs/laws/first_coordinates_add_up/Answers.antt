use Rattle.trig_meaning.proofs.Coordinates.{first_coordinates_add_up_lem}
use Rattle.trig_meaning.proofs.laws.first_coordinates_add_up.Goals as goal

pub returns : goal.returns
returns c = first_coordinates_add_up_lem
