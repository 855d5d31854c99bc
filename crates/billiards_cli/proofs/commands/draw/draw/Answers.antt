use Rattle.std.proofs.Common.{[], refl, inl}
use Rattle.billiards_cli.specs.Refusals.{refused_text, RefusesLine}
use Rattle.billiards_cli.specs.Services.{StopsAtNamed}
use Rattle.billiards_cli.specs.WholeFile.{file_input, IsRefusedFile, FileWantsMemory}
use Rattle.billiards_cli.specs.declared.status.Status.TheVariants.{Malformed, OutOfMemory}
use Rattle.billiards_cli.proofs.DrawAnswers.{draw_answer}
use Rattle.billiards_cli.proofs.Inputs.{names_first, fails_in, whole_input}
use Rattle.billiards_cli.proofs.Serving.{served}
use Rattle.billiards_cli.proofs.commands.draw.draw.Goals as goal

pub returns-in-Ok-clause-serves : goal.returns-in-Ok-clause-serves
returns-in-Ok-clause-serves g c =
    let left = g.S.Source.left in
    let input = c.in-Ok.ensures.reads in
    c.answer.ensures.serves _ _ _ _ (whole_input file_input c.in-Ok.tree input.old (left c.args.src.now) (left c.read_file.new.src) input.is_new input.reads)
    input.reads.ended c.in-Ok.ensures.cause

pub returns-in-Err-Line-clause-serves : goal.returns-in-Err-Line-clause-serves
returns-in-Err-Line-clause-serves g c =
    let left = g.S.Source.left c.args.src.now in
    let left' = g.S.Source.left c.read_file.new.src in
    let line = c.in-Err-Line.line in
    let reason = c.in-Err-Line.reason in
    let input = rw c.in-Err-Line.field-0-is at c.in-Err-Line.ensures.reads in
    let names = names_first file_input.grammar line reason input.old input.new left left' input.is_new input.reads in
    let text = refused_text line reason in
    let right : RefusesLine (IsRefusedFile names.input) text = record { line = line; reason = reason; refused = names.first; named = refl } in
    served _ _ _ Malformed _ text c.write_refusal.result tt
    (draw_answer left left' names.input Malformed text names.may_be right names.stops)
    (rw c.in-Err-Line.field-0-is at c.in-Err-Line.ensures.cause)
    (rw c.in-Err-Line.field-0-is at c.write_refusal.ensures.text) c.write_refusal.ensures.cause c.after_writing.ensures.after

pub returns-in-Err-Read-clause-serves : goal.returns-in-Err-Read-clause-serves
returns-in-Err-Read-clause-serves g c =
    let left = g.S.Source.left c.args.src.now in
    let left' = g.S.Source.left c.read_file.new.src in
    let input = rw c.in-Err-Read.field-0-is at c.in-Err-Read.ensures.reads in
    record {
      leaves = record { stops = fails_in file_input.grammar input.old input.new left left' input.is_new input.reads; unwritten = refl };
      counts = (rw c.in-Err-Read.field-0-is at c.in-Err-Read.ensures.cause, refl);
    }

pub returns-in-Err-Memory-clause-serves : goal.returns-in-Err-Memory-clause-serves
returns-in-Err-Memory-clause-serves g c =
    let left = g.S.Source.left c.args.src.now in
    let left' = g.S.Source.left c.read_file.new.src in
    let input = rw c.in-Err-Memory.field-0-is at c.in-Err-Memory.ensures.reads in
    let begins = rw c.in-Err-Memory.field-0-is at c.in-Err-Memory.ensures.wanting in
    let fails = fails_in file_input.grammar input.old input.new left left' input.is_new input.reads in
    let right : FileWantsMemory begins.0 [] = record { begins = begins.2; text_is = refl } in
    let stops : StopsAtNamed file_input.grammar [] left left' = record { due = fails.0; named = inl refl; ends = fails.1 } in
    record {
      leaves = record { answer = draw_answer left left' begins.0 OutOfMemory [] begins.1 right stops; unwritten = refl };
      counts = (rw c.in-Err-Memory.field-0-is at c.in-Err-Memory.ensures.cause, refl);
    }
