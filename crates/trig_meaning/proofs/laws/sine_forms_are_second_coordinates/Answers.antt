use Rattle.trig_meaning.proofs.Values.{sine_forms_are_second_coordinates_lem}
use Rattle.trig_meaning.proofs.laws.sine_forms_are_second_coordinates.Goals as goal

pub returns : goal.returns
returns c = sine_forms_are_second_coordinates_lem
