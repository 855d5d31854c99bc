use Rattle.std.proofs.Common.{[], List, refl, sym, subst}
use Rattle.billiards_cli.specs.Arguments.{any_word}
use Rattle.billiards_cli.specs.Commands.Points.{AreRows, ShowsPoints, PointsWantMemory, angles_at, points_text}
use Rattle.billiards_cli.specs.Refusals.{argument_text, RefusesArgument}
use Rattle.billiards_cli.specs.declared.commands.points.corner_spot.CornerSpot.{CornerSpot}
use Rattle.billiards_cli.specs.declared.status.Status.TheVariants.{Done, Malformed, OutOfMemory}
use Rattle.billiards_cli.proofs.PointsAnswers.{points_answer}
use Rattle.billiards_cli.proofs.Serving.{served}
use Rattle.billiards_cli.proofs.commands.points.points.Goals as goal

pub returns-in-Ok-of-clause-serves : goal.returns-in-Ok-of-clause-serves
returns-in-Ok-of-clause-serves g c = λ left faults.
    let argument = c.args.argument.now in
    let triangle = c.args.triangle.now in
    let corners = c.as_slice.result.now in
    let shift = c.in-Ok-of.rows.shift in
    let text = points_text corners shift in
    let right : ShowsPoints argument triangle text = record {
      word = c.in-Ok.word;
      spells = record { is_word = c.in-Ok.ensures.0; digits = c.in-Ok.ensures.1 };
      rows = corners;
      shift = shift;
      told = subst (λ (rows : List CornerSpot). AreRows c.in-Ok.word (angles_at triangle) rows shift) (sym c.as_slice.ensures.value) c.in-Ok-of.ensures;
      text_is = refl;
    } in
    served _ _ _ Done _ text c.write_rows.result tt (points_answer argument triangle left Done text right) refl
    c.write_rows.ensures.text c.write_rows.ensures.cause c.after_writing.ensures.after

pub returns-in-Ok-clause-serves : goal.returns-in-Ok-clause-serves
returns-in-Ok-clause-serves g c = λ left faults.
    let argument = c.args.argument.now in
    let right : PointsWantMemory argument [] = record {
      word = c.in-Ok.word;
      spells = record { is_word = c.in-Ok.ensures.0; digits = c.in-Ok.ensures.1 };
      text_is = refl;
    } in
    record {
      leaves = record { answer = points_answer argument c.args.triangle.now left OutOfMemory [] right; unwritten = refl };
      counts = (refl, refl);
    }

pub returns-clause-serves : goal.returns-clause-serves
returns-clause-serves g c = λ left faults.
    let argument = c.args.argument.now in
    let text = argument_text c.in-Err.reason in
    let right : RefusesArgument any_word argument text = record { reason = c.in-Err.reason; refused = c.in-Err.ensures; named = refl } in
    served _ _ _ Malformed _ text c.write_argument_refusal.result tt (points_answer argument c.args.triangle.now left Malformed text right) refl
    c.write_argument_refusal.ensures.text c.write_argument_refusal.ensures.cause c.after_writing-in-Err.ensures.after
