use Rattle.gradient_bounds.proofs.Marks.{table_of_pushed}
use Rattle.gradient_bounds.proofs.directions.blank_table.Goals as goal

pub returns-clause-directions : goal.returns-clause-directions
returns-clause-directions c =
    (table_of_pushed c.args.functions.now c.in_ok-directions.directions c.terms-term-items.result.now c.loop-term.term-index c.loop-term.table.items
    c.directions_of.ensures.shift
    c.in_ok-directions.ensures.marks c.in_ok-directions.ensures.within c.terms-term-items.ensures.all c.loop-term-test.false c.loop-term.invariant).0

pub returns-clause-small : goal.returns-clause-small
returns-clause-small c =
    (table_of_pushed c.args.functions.now c.in_ok-directions.directions c.terms-term-items.result.now c.loop-term.term-index c.loop-term.table.items
    c.directions_of.ensures.shift
    c.in_ok-directions.ensures.marks c.in_ok-directions.ensures.within c.terms-term-items.ensures.all c.loop-term-test.false c.loop-term.invariant).1
