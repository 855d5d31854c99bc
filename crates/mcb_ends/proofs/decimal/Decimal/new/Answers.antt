use Rattle.std.proofs.Common.{ℕ, ◌/◌, List, ◌++◌, ap, ◌∙◌, sym, arith}
use Rattle.std.specs.Fmt.{decimal}
use Rattle.mcb_ends.proofs.Digits.{digits_fit, next_digit, first_digit}
use Rattle.mcb_ends.proofs.decimal.Decimal.new.Goals as goal

pub put_first-requires : goal.put_first-requires
put_first-requires c = digits_fit c.args.n c.loop-rest.rest c.loop-rest.text (omega arith) (omega arith) c.loop-rest.invariant

pub loop-rest-preserved : goal.loop-rest-preserved
loop-rest-preserved c = next_digit c.args.n c.loop-rest.rest c.loop-rest.text (omega arith) (omega arith) c.loop-rest.invariant
    ∙ ap (λ (digits : List ℕ). decimal (c.loop-rest.rest / 10) ++ digits) (sym c.put_first.ensures)

pub put_first-requires-2 : goal.put_first-requires-2
put_first-requires-2 c = digits_fit c.args.n c.loop-rest.rest c.loop-rest.text (omega arith) (omega arith) c.loop-rest.invariant

pub returns : goal.returns
returns c = c.put_first-2.ensures ∙ sym (first_digit c.args.n c.loop-rest.rest c.loop-rest.text (omega arith) c.loop-rest.invariant)
