-- The first child to come is taken, and the others are to come as before.
use Rattle.std.proofs.Common.{ap, ◌∙◌}
use Rattle.covering_file.proofs.Stack.{child_taken, last_child_taken}
use Rattle.covering_file.proofs.walk.take_child.Goals as goal
use Rattle.covering_file.proofs.walk.take_child.Goals.{then-last-lt3, else-last-lt3}

pub returns-clause-due : goal.returns-clause-due
returns-clause-due c =
    elim c.if-last-lt3.branch [
      | then-last-lt3 w ↦
          child_taken c.args.begun.now.items c.pop.new.self.items c.if-last-lt3.begun.items c.in_ok-last.last c.child-child.result w.if-last-lt3.true
          c.in_ok-last.ensures.items
          (ap (λ v. v.items) w.begun-is ∙ w.push_reserved.ensures.items)
          c.child-child.ensures
      | else-last-lt3 w ↦
          last_child_taken c.args.begun.now.items c.pop.new.self.items c.if-last-lt3.begun.items c.in_ok-last.last c.child-child.result
          c.requires.begun w.if-last-lt3.false
          c.in_ok-last.ensures.items (ap (λ v. v.items) w.begun-is) c.child-child.ensures
    ]
