use Rattle.std.proofs.Common.{refl}
use Rattle.line_grammar.specs.declared.reason.Reason.TheVariants.{NotAWord}
use Rattle.billiards_cli.specs.Commands.Family.{RefusesFamily}
use Rattle.billiards_cli.specs.Refusals.{argument_text}
use Rattle.billiards_cli.specs.declared.status.Status.TheVariants.{Malformed}
use Rattle.billiards_cli.proofs.Serving.{served}
use Rattle.billiards_cli.proofs.FamilyAnswers.{family_answer}
use Rattle.billiards_cli.proofs.commands.family.family.Goals as goal

pub returns-in-Some-clause-serves : goal.returns-in-Some-clause-serves
returns-in-Some-clause-serves g c = λ left faults. c.answer.ensures.serves c.args.argument.now left faults c.in-Some.ensures

pub returns-in-None-clause-serves : goal.returns-in-None-clause-serves
returns-in-None-clause-serves g c = λ left faults.
    let text = argument_text NotAWord in
    let right : RefusesFamily c.args.argument.now text = record { none = c.in-None.ensures; text_is = refl } in
    served _ _ _ Malformed _ text c.write_argument_refusal.result tt
    (family_answer c.args.argument.now left Malformed text right) refl
    c.write_argument_refusal.ensures.text c.write_argument_refusal.ensures.cause c.after_writing.ensures.after
