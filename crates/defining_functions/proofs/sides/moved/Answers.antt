use Rattle.defining_functions.proofs.StepHeights.{moved_is, moved_light}
use Rattle.defining_functions.proofs.sides.moved.Goals as goal

pub sub-requires : goal.sub-requires
sub-requires c =
    moved_light c.args.height.now c.args.plus.now c.args.minus.now c.in_ok-moved.moved c.add.new.self c.requires.height c.requires.plus c.requires.minus
    c.in_ok-moved.ensures c.in_ok-add.ensures.ok

pub returns : goal.returns
returns c =
    moved_is c.args.height.now c.args.plus.now c.args.minus.now c.in_ok-moved.moved c.add.new.self c.sub.new.self c.in_ok-moved.ensures
    c.in_ok-add.ensures.ok c.in_ok-sub.ensures.ok
