use Rattle.defining_functions.specs.Steps.{AreSteps}
use Rattle.defining_functions.proofs.height_steps.HeightSteps.along.Given as goal

-- the steps of the edges so far
abbrev pub invariant-loop-i : goal.invariant-loop-i
invariant-loop-i l = AreSteps l.u l.i l.steps.forms.items l.steps.steps.items
