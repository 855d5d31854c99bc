use Rattle.std.proofs.Common.{sym, ◌∙◌}
use Rattle.line_grammar.proofs.TwoFields.{one_field, two_found, more_fields}
use Rattle.line_grammar.proofs.fields.two_fields.Goals as goal

pub returns-in_err-at-clause-none : goal.returns-in_err-at-clause-none
returns-in_err-at-clause-none c = rw c.from_residual.ensures (one_field c.args.line.now (sym c.first_space.ensures ∙ c.in_err-at.was))

pub returns-in-Some-clause-none : goal.returns-in-Some-clause-none
returns-in-Some-clause-none c = more_fields c.args.line.now c.in_ok-at.at c.in-Some.field-0 (sym c.first_space.ensures ∙ c.in_ok-at.was)
    (sym c.first_space-2.ensures ∙ c.in-Some.is)

pub returns-in-None-clause-found : goal.returns-in-None-clause-found
returns-in-None-clause-found c = two_found c.args.line.now c.in_ok-at.at (sym c.first_space.ensures ∙ c.in_ok-at.was)
    (sym c.first_space-2.ensures ∙ c.in-None.is)
