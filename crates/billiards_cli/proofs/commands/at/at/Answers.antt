use Rattle.std.proofs.Common.{◌≡◌, true, false, [], Ok, Bool, ap, ◌∙◌, refl}
use Rattle.covering_file.specs.CornerForms.{word_form}
use Rattle.billiards_cli.specs.Commands.At.{open_text, not_shown_text, ShowsOpen, ShowsNothing, AtWantsMemory}
use Rattle.billiards_cli.specs.Refusals.{argument_text, RefusesArgument}
use Rattle.billiards_cli.specs.declared.status.Status.TheVariants.{Done, NotShown, Malformed, OutOfMemory}
use Rattle.billiards_cli.proofs.Serving.{served}
use Rattle.billiards_cli.proofs.AtAnswers.{at_answer}
use Rattle.billiards_cli.proofs.commands.at.at.Goals as goal

pub returns-in-Ok-true-clause-serves : goal.returns-in-Ok-true-clause-serves
returns-in-Ok-true-clause-serves g c = λ left faults.
    let is : c.is_open.result ≡ Ok true = c.in-Ok-true.is ∙ ap (λ (b : Bool). Ok b) c.in-Ok-true.field-0-test in
    let right : ShowsOpen c.args.argument.now c.args.triangle.now open_text = record {
      word = c.in-Ok.word;
      spells = record
          { is_word = c.in-Ok.ensures.0.word; digits = c.in-Ok.ensures.1 };
      corridor = c.is_open.ensures.«open» is;
      text_is = refl;
    } in
    served _ _ _ Done _ open_text c.put.result tt (at_answer c.args.argument.now c.args.triangle.now left Done open_text right) refl
    c.put.ensures.text c.put.ensures.cause c.after_writing.ensures.after

pub returns-in-Ok-false-clause-serves : goal.returns-in-Ok-false-clause-serves
returns-in-Ok-false-clause-serves g c = λ left faults.
    let is : c.is_open.result ≡ Ok false = c.in-Ok-false.is ∙ ap (λ (b : Bool). Ok b) c.in-Ok-false.field-0-test in
    let right : ShowsNothing c.args.argument.now c.args.triangle.now not_shown_text = record {
      word = c.in-Ok.word;
      spells = record { is_word = c.in-Ok.ensures.0.word; digits = c.in-Ok.ensures.1 };
      stable = c.in-Ok.ensures.0.stable;
      not_clear = c.is_open.ensures.not_shown is;
      text_is = refl;
    } in
    served _ _ _ NotShown _ not_shown_text c.put-in-Ok-false.result tt
    (at_answer c.args.argument.now c.args.triangle.now left NotShown not_shown_text right) refl
    c.put-in-Ok-false.ensures.text c.put-in-Ok-false.ensures.cause c.after_writing-in-Ok-false.ensures.after

pub returns-in-Ok-clause-serves : goal.returns-in-Ok-clause-serves
returns-in-Ok-clause-serves g c = λ left faults.
    let right : AtWantsMemory c.args.argument.now [] = record {
      word = c.in-Ok.word;
      spells = record
          { is_word = c.in-Ok.ensures.0.word; digits = c.in-Ok.ensures.1 };
      stable = c.in-Ok.ensures.0.stable;
      text_is = refl;
    } in
    record {
      leaves = record { answer = at_answer c.args.argument.now c.args.triangle.now left OutOfMemory [] right; unwritten = refl };
      counts = (refl, refl);
    }

pub returns-clause-serves : goal.returns-clause-serves
returns-clause-serves g c = λ left faults.
    let text = argument_text c.in-Err.reason in
    let right : RefusesArgument word_form c.args.argument.now text = record { reason = c.in-Err.reason; refused = c.in-Err.ensures; named = refl } in
    served _ _ _ Malformed _ text c.write_argument_refusal.result tt
    (at_answer c.args.argument.now c.args.triangle.now left Malformed text right) refl
    c.write_argument_refusal.ensures.text c.write_argument_refusal.ensures.cause c.after_writing-in-Err.ensures.after
