use Rattle.std.proofs.Common.{◌≡◌, [], Err, refl}
use Rattle.bounce_path.specs.declared.fault.PathFault.TheVariants as path_fault
use Rattle.covering_file.specs.CornerForms.{word_form}
use Rattle.billiards_cli.specs.Commands.At.{AtWantsMemory, not_shown_text}
use Rattle.billiards_cli.specs.Commands.Path.{DrawsPath, ShowsNoPath}
use Rattle.billiards_cli.specs.Refusals.{argument_text, RefusesArgument}
use Rattle.billiards_cli.specs.declared.status.Status.TheVariants.{Done, NotShown, Malformed, OutOfMemory}
use Rattle.billiards_cli.proofs.Serving.{served}
use Rattle.billiards_cli.proofs.PathAnswers.{drawn_path_answer}
use Rattle.billiards_cli.proofs.commands.path.picture.drawn_path.Goals as goal

pub returns-in-Ok-path_at-clause-serves : goal.returns-in-Ok-path_at-clause-serves
returns-in-Ok-path_at-clause-serves g c = λ left faults.
    let argument = c.args.argument.now in
    let triangle = c.args.triangle.now in
    let drawn = c.draw.ensures.text in
    let right : DrawsPath argument triangle drawn.text = record {
      path = c.in-Ok-path_at.path;
      has = record {
        word = c.in-Ok.word;
        spells = record { is_word = c.in-Ok.ensures.0.word; digits = c.in-Ok.ensures.1 };
        is = c.in-Ok-path_at.ensures.path;
      };
      picture = drawn.picture;
    } in
    served _ _ _ Done _ drawn.text c.draw.result tt (drawn_path_answer argument triangle left Done drawn.text right) refl drawn.written
    c.draw.ensures.cause c.after_writing.ensures.after

pub returns-in-Err-NotShown-clause-serves : goal.returns-in-Err-NotShown-clause-serves
returns-in-Err-NotShown-clause-serves g c = λ left faults.
    let argument = c.args.argument.now in
    let triangle = c.args.triangle.now in
    let is : c.path_at.result ≡ Err path_fault.NotShown = cc in
    let right : ShowsNoPath argument triangle not_shown_text = record {
      word = c.in-Ok.word;
      spells = record { is_word = c.in-Ok.ensures.0.word; digits = c.in-Ok.ensures.1 };
      stable = c.in-Ok.ensures.0.stable;
      not_clear = c.path_at.ensures.not_shown is;
      text_is = refl;
    } in
    served _ _ _ NotShown _ not_shown_text c.put.result tt (drawn_path_answer argument triangle left NotShown not_shown_text right) refl c.put.ensures.text
    c.put.ensures.cause c.after_writing-in-Err-NotShown.ensures.after

pub returns-in-Ok-clause-serves : goal.returns-in-Ok-clause-serves
returns-in-Ok-clause-serves g c = λ left faults.
    let argument = c.args.argument.now in
    let right : AtWantsMemory argument [] = record {
      word = c.in-Ok.word;
      spells = record { is_word = c.in-Ok.ensures.0.word; digits = c.in-Ok.ensures.1 };
      stable = c.in-Ok.ensures.0.stable;
      text_is = refl;
    } in
    record {
      leaves = record { answer = drawn_path_answer argument c.args.triangle.now left OutOfMemory [] right; unwritten = refl };
      counts = (refl, refl);
    }

pub returns-clause-serves : goal.returns-clause-serves
returns-clause-serves g c = λ left faults.
    let argument = c.args.argument.now in
    let text = argument_text c.in-Err.reason in
    let right : RefusesArgument word_form argument text = record { reason = c.in-Err.reason; refused = c.in-Err.ensures; named = refl } in
    served _ _ _ Malformed _ text c.write_argument_refusal.result tt (drawn_path_answer argument c.args.triangle.now left Malformed text right) refl
    c.write_argument_refusal.ensures.text c.write_argument_refusal.ensures.cause c.after_writing-in-Err.ensures.after
