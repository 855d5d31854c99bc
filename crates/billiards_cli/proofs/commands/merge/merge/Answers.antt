use Rattle.std.proofs.Common.{[], Err, refl, ap, ◌∙◌, count_by}
use Rattle.std.proofs.KnownBytes.{Appends-nil}
use Rattle.covering_file.specs.Node.{is_uncovered}
use Rattle.covering_file.specs.TreeFile.{IsTreeFile, tree_file_text}
use Rattle.covering_file.specs.declared.TheConstants.{MAX_NODES}
use Rattle.cover_merge.specs.declared.fault.MergeFault.{MergeFault}
use Rattle.cover_merge.specs.declared.fault.MergeFault.TheVariants.{Differs, Words}
use Rattle.billiards_cli.specs.Commands.Check.{refusal_status}
use Rattle.billiards_cli.specs.Commands.Merge.{merged_status, fault_text}
use Rattle.billiards_cli.specs.Refusals.{refused_text}
use Rattle.billiards_cli.specs.Services.{status_after}
use Rattle.billiards_cli.specs.declared.status.Status.{Status}
use Rattle.billiards_cli.specs.declared.status.Status.TheVariants.{Malformed}
use Rattle.billiards_cli.proofs.MergeAnswers.{merged_answer, merged_is_written, line_answer, refusal_is_written, differs_answer, words_answer}
use Rattle.billiards_cli.proofs.MergeAnswers.{full_answer, read_fault, memory_answer}
use Rattle.billiards_cli.proofs.Serving.{served}
use Rattle.billiards_cli.proofs.commands.merge.merge.Goals as goal

pub returns-in-Ok-clause-serves : goal.returns-in-Ok-clause-serves
returns-in-Ok-clause-serves g c =
    let s = g.S.Source in
    let merged = c.in-Ok.tree in
    let is : IsTreeFile MAX_NODES merged = rw (← c.tree.view_is) c.tree.invariant in
    let uncovered = count_by is_uncovered merged.nodes in
    served _ _ _ (merged_status uncovered) _ (tree_file_text merged) c.write_tree.result (merged_is_written uncovered)
    (merged_answer (s.left c.args.src.now) (s.left c.merge.new.src) merged is c.in-Ok.ensures.merges)
    c.in-Ok.ensures.cause c.write_tree.ensures.text c.write_tree.ensures.cause
    (c.after_writing.ensures.after ∙ ap (λ (status : Status). status_after status c.write_tree.result) c.status_of_merged.ensures)

pub returns-in-Err-Line-clause-serves : goal.returns-in-Err-Line-clause-serves
returns-in-Err-Line-clause-serves g c =
    let s = g.S.Source in
    let line = c.in-Err-Line.line in
    let reason = c.in-Err-Line.reason in
    let read = rw c.in-Err-Line.field-0-is at c.in-Err-Line.ensures.merges in
    served _ _ _ (refusal_status reason) _ (refused_text line reason) c.write_refusal.result (refusal_is_written reason)
    (line_answer (s.left c.args.src.now) (s.left c.merge.new.src) line reason read)
    (rw c.in-Err-Line.field-0-is at c.in-Err-Line.ensures.cause) c.write_refusal.ensures.text c.write_refusal.ensures.cause
    (c.after_writing-in-Err-Line.ensures.after ∙ ap (λ (status : Status). status_after status c.write_refusal.result) c.status_of_refusal.ensures)

pub returns-in-Err-Differs-clause-serves : goal.returns-in-Err-Differs-clause-serves
returns-in-Err-Differs-clause-serves g c =
    let s = g.S.Source in
    let line = c.in-Err-Differs.line in
    let read = rw c.in-Err-Differs.field-0-is at c.in-Err-Differs.ensures.merges in
    served _ _ _ Malformed _ (fault_text (Differs line)) c.write_numbered_refusal.result tt
    (differs_answer (s.left c.args.src.now) (s.left c.merge.new.src) line read)
    (rw c.in-Err-Differs.field-0-is at c.in-Err-Differs.ensures.cause) c.write_numbered_refusal.ensures.text c.write_numbered_refusal.ensures.cause
    c.after_writing-in-Err-Differs.ensures.after

pub returns-in-Err-Words-clause-serves : goal.returns-in-Err-Words-clause-serves
returns-in-Err-Words-clause-serves g c =
    let s = g.S.Source in
    let line = c.in-Err-Words.line in
    let read = rw c.in-Err-Words.field-0-is at c.in-Err-Words.ensures.merges in
    served _ _ _ Malformed _ (fault_text (Words line)) c.write_numbered_refusal-in-Err-Words.result tt
    (words_answer (s.left c.args.src.now) (s.left c.merge.new.src) line read)
    (rw c.in-Err-Words.field-0-is at c.in-Err-Words.ensures.cause) c.write_numbered_refusal-in-Err-Words.ensures.text
    c.write_numbered_refusal-in-Err-Words.ensures.cause c.after_writing-in-Err-Words.ensures.after

pub returns-in-Err-Full-clause-serves : goal.returns-in-Err-Full-clause-serves
returns-in-Err-Full-clause-serves g c =
    let s = g.S.Source in
    let read = rw c.in-Err-Full.field-0-is at c.in-Err-Full.ensures.merges in
    record {
      leaves = record {
        text = [];
        answer = full_answer (s.left c.args.src.now) (s.left c.merge.new.src) _ read;
        written = Appends-nil (g.K.Sink.written c.args.out.now);
      };
      counts = (rw c.in-Err-Full.field-0-is at c.in-Err-Full.ensures.cause, refl);
    }

pub returns-in-Err-Read-clause-serves : goal.returns-in-Err-Read-clause-serves
returns-in-Err-Read-clause-serves g c =
    let s = g.S.Source in
    let read = rw c.in-Err-Read.field-0-is at c.in-Err-Read.ensures.merges in
    record {
      leaves = record { stops = read_fault (s.left c.args.src.now) (s.left c.merge.new.src) read; unwritten = refl };
      counts = (rw c.in-Err-Read.field-0-is at c.in-Err-Read.ensures.cause, refl);
    }

pub returns-in-Err-Memory-clause-serves : goal.returns-in-Err-Memory-clause-serves
returns-in-Err-Memory-clause-serves g c =
    let s = g.S.Source in
    let read = rw c.in-Err-Memory.field-0-is at c.in-Err-Memory.ensures.merges in
    let begins = c.in-Err-Memory.ensures.wanting (ap (λ (fault : MergeFault). Err fault) c.in-Err-Memory.field-0-is) in
    record {
      leaves = record { answer = memory_answer (s.left c.args.src.now) (s.left c.merge.new.src) read begins; unwritten = refl };
      counts = (rw c.in-Err-Memory.field-0-is at c.in-Err-Memory.ensures.cause, refl);
    }
