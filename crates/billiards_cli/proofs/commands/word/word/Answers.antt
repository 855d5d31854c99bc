use Rattle.std.proofs.Common.{refl}
use Rattle.billiards_cli.specs.Commands.Word.{word_input, IsRefusedWord}
use Rattle.billiards_cli.specs.Refusals.{refused_text, RefusesLine}
use Rattle.billiards_cli.specs.declared.status.Status.TheVariants.{Malformed}
use Rattle.billiards_cli.proofs.Inputs.{names_first, fails_in, whole_input}
use Rattle.billiards_cli.proofs.Serving.{served}
use Rattle.billiards_cli.proofs.WordAnswers.{word_answer}
use Rattle.billiards_cli.proofs.commands.word.word.Goals as goal

pub returns-in-Ok-clause-serves : goal.returns-in-Ok-clause-serves
returns-in-Ok-clause-serves g c =
    let left = g.S.Source.left in
    let input = c.in-Ok.ensures.reads in
    c.answer.ensures.serves _ _ _ _ (whole_input word_input c.in-Ok.word input.old (left c.args.src.now) (left c.read_input.new.src) input.is_new input.reads)
    input.reads.ended c.in-Ok.ensures.cause

pub returns-in-Err-Line-clause-serves : goal.returns-in-Err-Line-clause-serves
returns-in-Err-Line-clause-serves g c =
    let left = g.S.Source.left c.args.src.now in
    let left' = g.S.Source.left c.read_input.new.src in
    let line = c.in-Err-Line.line in
    let reason = c.in-Err-Line.reason in
    let input = rw c.in-Err-Line.field-0-is at c.in-Err-Line.ensures.reads in
    let names = names_first word_input.grammar line reason input.old input.new left left' input.is_new input.reads in
    let text = refused_text line reason in
    let right : RefusesLine (IsRefusedWord names.input) text = record { line = line; reason = reason; refused = names.first; named = refl } in
    served _ _ _ Malformed _ text c.write_refusal.result tt
    (word_answer left left' names.input Malformed text names.may_be right names.stops)
    (rw c.in-Err-Line.field-0-is at c.in-Err-Line.ensures.cause)
    (rw c.in-Err-Line.field-0-is at c.write_refusal.ensures.text) c.write_refusal.ensures.cause c.after_writing.ensures.after

pub returns-in-Err-Read-clause-serves : goal.returns-in-Err-Read-clause-serves
returns-in-Err-Read-clause-serves g c =
    let left = g.S.Source.left c.args.src.now in
    let left' = g.S.Source.left c.read_input.new.src in
    let input = rw c.in-Err-Read.field-0-is at c.in-Err-Read.ensures.reads in
    record {
      leaves = record { stops = fails_in word_input.grammar input.old input.new left left' input.is_new input.reads; unwritten = refl };
      counts = (rw c.in-Err-Read.field-0-is at c.in-Err-Read.ensures.cause, refl);
    }
