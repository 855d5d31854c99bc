use Rattle.exp_sums.proofs.SineForm.{sine_forms_linear}
use Rattle.exp_sums.proofs.laws.sine_forms_add_up.Goals as goal

pub returns : goal.returns
returns c = sine_forms_linear
