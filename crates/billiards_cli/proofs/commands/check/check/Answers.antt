use Rattle.std.proofs.Common.{[], Err, ap, ◌∙◌, refl, inl}
use Rattle.cover_checker.specs.declared.verdict.CheckFault.{CheckFault}
use Rattle.billiards_cli.specs.Commands.Check.{accepted_text, refusal_status, AcceptsFile, CheckWantsMemory}
use Rattle.billiards_cli.specs.Refusals.{refused_text}
use Rattle.billiards_cli.specs.Services.{StopsAtNamed, status_after}
use Rattle.billiards_cli.specs.declared.status.Status.{Status}
use Rattle.billiards_cli.specs.declared.status.Status.TheVariants.{Done, OutOfMemory}
use Rattle.billiards_cli.proofs.Inputs.{stops_at}
use Rattle.billiards_cli.proofs.Serving.{served}
use Rattle.billiards_cli.proofs.CheckAnswers.{check_answer, refusal_answer, refusal_is_written, refusal_reads, checked}
use Rattle.billiards_cli.proofs.commands.check.check.Goals as goal

pub returns-in-Ok-Accepted-clause-serves : goal.returns-in-Ok-Accepted-clause-serves
returns-in-Ok-Accepted-clause-serves g c =
    let s = g.S.Source in
    let nodes = c.in-Ok-Accepted.nodes in
    let words = c.in-Ok-Accepted.words in
    let right = rw c.in-Ok-Accepted.field-0-is at c.in-Ok-Accepted.ensures.right in
    let end = rw c.in-Ok-Accepted.field-0-is at c.in-Ok-Accepted.ensures.stops in
    let text = accepted_text nodes words in
    let accepts : AcceptsFile right.0 text = record { nodes = nodes; words = words; accepted = right.2; text_is = refl } in
    served _ _ _ Done _ text c.write_acceptance.result tt (check_answer (s.left c.args.src.now) (s.left c.check.new.src) right.0 Done text right.1 accepts end)
    c.in-Ok-Accepted.ensures.cause c.write_acceptance.ensures.text c.write_acceptance.ensures.cause c.after_writing.ensures.after

pub returns-in-Ok-Refused-clause-serves : goal.returns-in-Ok-Refused-clause-serves
returns-in-Ok-Refused-clause-serves g c =
    let s = g.S.Source in
    let line = c.in-Ok-Refused.line in
    let reason = c.in-Ok-Refused.reason in
    let right = rw c.in-Ok-Refused.field-0-is at c.in-Ok-Refused.ensures.right in
    let stops = rw c.in-Ok-Refused.field-0-is at c.in-Ok-Refused.ensures.stops in
    let text = refused_text line reason in
    let status = refusal_status reason in
    let left' = s.left c.check.new.src in
    let answer = check_answer (s.left c.args.src.now) left' right.0 status text right.1 (refusal_answer right.0 line reason right.2)
    (refusal_reads line reason (s.left c.args.src.now) left'
    (stops_at checked stops.0 line reason (s.left c.args.src.now) left' stops.1 stops.2)) in
    served _ _ _ status _ text c.write_refusal.result (refusal_is_written reason) answer
    c.in-Ok-Refused.ensures.cause c.write_refusal.ensures.text c.write_refusal.ensures.cause
    (c.after_writing-in-Ok-Refused.ensures.after ∙ ap (λ (s : Status). status_after s c.write_refusal.result) c.status_of_refusal.ensures)

pub returns-in-Err-Read-clause-serves : goal.returns-in-Err-Read-clause-serves
returns-in-Err-Read-clause-serves g c =
    let stops = c.in-Err-Read.ensures.stops in
    record {
      leaves = record { stops = stops; unwritten = refl };
      counts = (rw c.in-Err-Read.field-0-is at c.in-Err-Read.ensures.cause, refl);
    }

pub returns-in-Err-Memory-clause-serves : goal.returns-in-Err-Memory-clause-serves
returns-in-Err-Memory-clause-serves g c =
    let s = g.S.Source in
    let begins = c.in-Err-Memory.ensures.wanting (ap (λ (fault : CheckFault). Err fault) c.in-Err-Memory.field-0-is) in
    let stops = c.in-Err-Memory.ensures.stops in
    let right : CheckWantsMemory begins.0 [] = record { begins = begins.2; text_is = refl } in
    let read : StopsAtNamed checked [] (s.left c.args.src.now) (s.left c.check.new.src) = record { due = stops.0; named = inl refl; ends = stops.1 } in
    record {
      leaves = record {
        answer = check_answer (s.left c.args.src.now) (s.left c.check.new.src) begins.0 OutOfMemory [] begins.1 right read;
        unwritten = refl;
      };
      counts = (rw c.in-Err-Memory.field-0-is at c.in-Err-Memory.ensures.cause, refl);
    }
