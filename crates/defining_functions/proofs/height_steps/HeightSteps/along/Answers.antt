use Rattle.std.proofs.Common.{sym, ap, subst, ◌∙◌}
use Rattle.exp_sums.specs.FormalPoint.{conj}
use Rattle.unfolding.proofs.Shifts.{same_shift}
use Rattle.defining_functions.specs.Kept.{IsSmall}
use Rattle.defining_functions.proofs.Limits.{IsSmall-conj, shift_small}
use Rattle.defining_functions.proofs.height_steps.HeightSteps.along.Goals as goal

pub add-requires-clause-small : goal.add-requires-clause-small
add-requires-clause-small c = subst IsSmall (sym c.in_ok-conjugate.ensures)
    (IsSmall-conj _ (shift_small c.args.u.now c.args.shift.now c.letters-i-end.ensures.word c.requires))

pub add-requires-clause-conjugate : goal.add-requires-clause-conjugate
add-requires-clause-conjugate c v shift = c.in_ok-conjugate.ensures ∙ ap conj (same_shift c.args.u.now c.args.shift.now v c.requires shift)
