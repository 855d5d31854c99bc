use Rattle.std.proofs.Common.{[], refl, inr}
use Rattle.covering_file.specs.Header.{job_text}
use Rattle.covering_file.specs.HeaderPart.{job_part}
use Rattle.covering_file.proofs.HeaderLaws.{job_never_offends}
use Rattle.billiards_cli.specs.Commands.Cover.{IsJobText, CoverWantsMemory}
use Rattle.billiards_cli.specs.Services.{ReadsWhole}
use Rattle.billiards_cli.specs.declared.status.Status.TheVariants.{Done, NotShown, WriteFault, OutOfMemory, Full}
use Rattle.billiards_cli.proofs.CoverAnswers.{cover_answer, covers_job, job_begins}
use Rattle.billiards_cli.proofs.commands.cover.cover_job.Goals as goal

pub returns-in-Ok-Complete-clause-serves : goal.returns-in-Ok-Complete-clause-serves
returns-in-Ok-Complete-clause-serves g c = λ left left' faults faults' may_be end stood.
    let h = c.args.header.now in
    let covers = rw c.in-Ok-Complete.field-0-is at c.in-Ok-Complete.ensures.text in
    let job = covers_job h _ covers.0 c.requires covers.1 in
    let answer = cover_answer left left' (job_text h) Done covers.0 tt may_be (_, job) end in
    record {
      leaves = record { text = covers.0; answer = answer; written = covers.2 };
      counts = (stood, c.in-Ok-Complete.ensures.cause);
    }

pub returns-in-Ok-OpenBoxes-clause-serves : goal.returns-in-Ok-OpenBoxes-clause-serves
returns-in-Ok-OpenBoxes-clause-serves g c = λ left left' faults faults' may_be end stood.
    let h = c.args.header.now in
    let covers = rw c.in-Ok-OpenBoxes.field-0-is at c.in-Ok-OpenBoxes.ensures.text in
    let job = covers_job h _ covers.0 c.requires covers.1 in
    let answer = cover_answer left left' (job_text h) NotShown covers.0 tt may_be (_, _, job) end in
    record {
      leaves = record { text = covers.0; answer = answer; written = covers.2 };
      counts = (stood, c.in-Ok-OpenBoxes.ensures.cause);
    }

pub returns-in-Ok-Full-clause-serves : goal.returns-in-Ok-Full-clause-serves
returns-in-Ok-Full-clause-serves g c = λ left left' faults faults' may_be end stood.
    let h = c.args.header.now in
    let covers = rw c.in-Ok-Full.field-0-is at c.in-Ok-Full.ensures.text in
    let job = covers_job h _ covers.0 c.requires covers.1 in
    let answer = cover_answer left left' (job_text h) Full covers.0 tt may_be (_, job) end in
    record {
      leaves = record { text = covers.0; answer = answer; written = covers.2 };
      counts = (stood, c.in-Ok-Full.ensures.cause);
    }

pub returns-in-Err-Write-clause-serves : goal.returns-in-Err-Write-clause-serves
returns-in-Err-Write-clause-serves g c = λ left left' faults faults' may_be end stood.
    let h = c.args.header.now in
    let begins = rw c.in-Err-Write.field-0-is at c.in-Err-Write.ensures.text in
    let job : IsJobText (job_text h) h = record { is_heading = c.requires; text = refl } in
    record {
      leaves = record {
        input = job_text h;
        status = WriteFault;
        text = begins.0;
        may_be = may_be;
        right = record { heading = h; job = job; begun = begins.1 };
        due = λ not. absurd (not refl);
        read = end;
        begun = begins.2;
      };
      counts = (stood, rw c.in-Err-Write.field-0-is at c.in-Err-Write.ensures.cause);
    }

pub returns-in-Err-Memory-clause-serves : goal.returns-in-Err-Memory-clause-serves
returns-in-Err-Memory-clause-serves g c = λ left left' faults faults' may_be end stood.
    let h = c.args.header.now in
    let right : CoverWantsMemory (job_text h) [] = record { begins = job_begins h c.requires; text_is = refl } in
    let whole : ReadsWhole job_part.grammar left left' = record {
      input = job_text h;
      may_be = may_be;
      taken = λ line reason. job_never_offends h line reason c.requires;
      ended = end;
    } in
    record {
      leaves = record {
        answer = cover_answer left left' (job_text h) OutOfMemory [] tt may_be right (inr whole);
        unwritten = rw c.in-Err-Memory.field-0-is at c.in-Err-Memory.ensures.text;
      };
      counts = (stood, rw c.in-Err-Memory.field-0-is at c.in-Err-Memory.ensures.cause);
    }
