use Rattle.exp_sums.proofs.SineForm.{coefficient-sine_form}
use Rattle.exp_sums.proofs.laws.sine_forms_subtract_conjugates.Goals as goal

pub returns : goal.returns
returns c = coefficient-sine_form
