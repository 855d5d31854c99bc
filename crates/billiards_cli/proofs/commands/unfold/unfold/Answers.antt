use Rattle.std.proofs.Common.{[], List, ℕ, refl, subst}
use Rattle.svg_pictures.specs.UnfoldingPicture.{WritesUnfolding}
use Rattle.billiards_cli.specs.Arguments.{any_word}
use Rattle.billiards_cli.specs.Commands.At.{AtTriangle}
use Rattle.billiards_cli.specs.Commands.Unfold.{DrawsUnfolding, UnfoldWantsMemory}
use Rattle.billiards_cli.specs.Refusals.{argument_text, RefusesArgument}
use Rattle.billiards_cli.specs.declared.status.Status.TheVariants.{Done, Malformed, OutOfMemory}
use Rattle.billiards_cli.proofs.Serving.{served}
use Rattle.billiards_cli.proofs.UnfoldAnswers.{unfold_answer}
use Rattle.billiards_cli.proofs.commands.unfold.unfold.Goals as goal

pub returns-in-Ok-of-clause-serves : goal.returns-in-Ok-of-clause-serves
returns-in-Ok-of-clause-serves g c = λ left faults.
    let k = g.K.Sink in
    let argument = c.args.argument.now in
    let triangle = c.args.triangle.now in
    let drawn = subst (λ (w : List ℕ). AtTriangle triangle (λ x y. WritesUnfolding w x y (k.written c.args.out.now) (k.written c.draw.new.out) c.draw.result))
    c.in-Ok-of.ensures.word c.draw.ensures.text in
    let right : DrawsUnfolding argument triangle drawn.text = record {
      word = c.in-Ok.word;
      spells = record { is_word = c.in-Ok.ensures.0; digits = c.in-Ok.ensures.1 };
      picture = drawn.picture;
    } in
    served _ _ _ Done _ drawn.text c.draw.result tt (unfold_answer argument triangle left Done drawn.text right) refl
    drawn.written c.draw.ensures.cause c.after_writing.ensures.after

pub returns-in-Ok-clause-serves : goal.returns-in-Ok-clause-serves
returns-in-Ok-clause-serves g c = λ left faults.
    let argument = c.args.argument.now in
    let right : UnfoldWantsMemory argument [] = record {
      word = c.in-Ok.word;
      spells = record { is_word = c.in-Ok.ensures.0; digits = c.in-Ok.ensures.1 };
      text_is = refl;
    } in
    record {
      leaves = record { answer = unfold_answer argument c.args.triangle.now left OutOfMemory [] right; unwritten = refl };
      counts = (refl, refl);
    }

pub returns-clause-serves : goal.returns-clause-serves
returns-clause-serves g c = λ left faults.
    let argument = c.args.argument.now in
    let text = argument_text c.in-Err.reason in
    let right : RefusesArgument any_word argument text = record { reason = c.in-Err.reason; refused = c.in-Err.ensures; named = refl } in
    served _ _ _ Malformed _ text c.write_argument_refusal.result tt (unfold_answer argument c.args.triangle.now left Malformed text right) refl
    c.write_argument_refusal.ensures.text c.write_argument_refusal.ensures.cause c.after_writing-in-Err.ensures.after
