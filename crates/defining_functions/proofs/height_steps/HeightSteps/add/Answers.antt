use Rattle.std.proofs.Common.{◌+◌, arith}
use Rattle.defining_functions.proofs.Steps.{next_step, step_way}
use Rattle.defining_functions.proofs.height_steps.HeightSteps.add.Goals as goal

pub overflow_add-i : goal.overflow_add-i
overflow_add-i c = omega (arith, c.requires.place, c.requires.word.even_length.at_most)

pub returns : goal.returns
returns c =
    let w = c.args.u.now in
    let i = c.args.i in
    let f = c.in_ok-plus.plus in
    let g = c.in_ok-minus.minus in
    let chord = c.chord_of-chord.ensures in
    let limits = c.in_ok-minus-2.ensures.limits (c.in_ok-plus-2.ensures.limits c.requires.so_far.limits) in
    next_step w i _ _ c.place_of-2.new.forms.items _ c.push.new.self.items _ f g c.requires.so_far c.in_ok-plus-2.ensures.kept
    c.in_ok-minus-2.ensures.kept limits c.in_ok-plus-2.ensures.place c.in_ok-minus-2.ensures.place c.shared_end-shared.ensures
    (λ v shift. step_way w v c.args.conjugate.now (i + 1) _ _ f g (c.requires.conjugate v shift) chord.way c.in_ok-plus.ensures.is c.in_ok-minus.ensures.is)
    c.in_ok-push.ensures.items
