use Rattle.std.proofs.Common.{Err}
use Rattle.std.proofs.lemmas.Result.{err_from_is_err_and}
use Rattle.line_grammar.specs.Input.{IsNew}
use Rattle.covering_file.specs.declared.file_kind.FileKind.TheVariants.{Job}
use Rattle.covering_file.proofs.JobParts.{from_line}
use Rattle.covering_file.specs.Header.{Heading}
use Rattle.covering_file.proofs.HeadLines.{end_is_form}
use Rattle.covering_file.proofs.JobParts.{header_in_job, end_fails, after_fails, job_taken, wants_new, begins_new}
use Rattle.covering_file.proofs.Wanting.{wants_if_err}
use Rattle.covering_file.proofs.job.read_job.Goals as goal

pub take-requires-clause-form : goal.take-requires-clause-form
take-requires-clause-form g c = end_is_form

pub returns-in_err-header-clause-reads : goal.returns-in_err-header-clause-reads
returns-in_err-header-clause-reads g c =
    let left = g.S.Source.left in
    let old = c.new-lines.result in
    let mid = c.read_header.new.lines in
    let a = left c.args.src.now in
    let b = left c.read_header.new.src in
    let new : IsNew old = record { held = c.new-lines.ensures.held; done = c.new-lines.ensures.done; number = c.new-lines.ensures.number } in
    let p = err_from_is_err_and c.from_residual.result c.from_residual.ensures.1 in
    rw (p.1, p.2)
    (record { old = old; new = mid; is_new = new; reads = header_in_job old mid a b _ new.done c.in_err-header.ensures.reads })

pub returns-in_err-take-clause-reads : goal.returns-in_err-take-clause-reads
returns-in_err-take-clause-reads g c =
    let left = g.S.Source.left in
    let old = c.new-lines.result in
    let mid = c.read_header.new.lines in
    let a = left c.args.src.now in
    let b = left c.read_header.new.src in
    let new : IsNew old = record { held = c.new-lines.ensures.held; done = c.new-lines.ensures.done; number = c.new-lines.ensures.number } in
    let p = err_from_is_err_and c.from_residual-in_err-take.result c.from_residual-in_err-take.ensures.1 in
    rw (p.1, p.2)
    (record {
      old = old;
      new = c.take.new.lines;
      is_new = new;
      reads = from_line c.in_err-take.field-0.0 old c.take.new.lines a (left c.take.new.src)
          (end_fails c.in_ok-header.header old mid c.take.new.lines a b
          (left c.take.new.src) _ new.done c.in_ok-header.ensures.reads c.in_err-take.ensures.reads);
    })

pub returns-in_err-end_of_input-clause-reads : goal.returns-in_err-end_of_input-clause-reads
returns-in_err-end_of_input-clause-reads g c =
    let left = g.S.Source.left in
    let old = c.new-lines.result in
    let mid = c.read_header.new.lines in
    let a = left c.args.src.now in
    let b = left c.read_header.new.src in
    let new : IsNew old = record { held = c.new-lines.ensures.held; done = c.new-lines.ensures.done; number = c.new-lines.ensures.number } in
    let p = err_from_is_err_and c.from_residual-in_err-end_of_input.result c.from_residual-in_err-end_of_input.ensures.1 in
    rw (p.1, p.2)
    (record {
      old = old;
      new = c.end_of_input.new.lines;
      is_new = new;
      reads = from_line c.in_err-end_of_input.field-0.0 old c.end_of_input.new.lines a (left c.end_of_input.new.src)
          (after_fails c.in_ok-header.header old mid c.take.new.lines c.end_of_input.new.lines a b (left c.take.new.src) (left c.end_of_input.new.src) _
          c.in_ok-header.ensures.reads c.in_ok-take.ensures.reads c.in_err-end_of_input.ensures.reads);
    })

pub returns-clause-reads : goal.returns-clause-reads
returns-clause-reads g c =
    let left = g.S.Source.left in
    let old = c.new-lines.result in
    let mid = c.read_header.new.lines in
    let a = left c.args.src.now in
    let b = left c.read_header.new.src in
    let new : IsNew old = record { held = c.new-lines.ensures.held; done = c.new-lines.ensures.done; number = c.new-lines.ensures.number } in
    record {
      old = old;
      new = c.end_of_input.new.lines;
      is_new = new;
      reads = job_taken c.in_ok-header.header old mid c.take.new.lines a b (left c.take.new.src) (left c.end_of_input.new.src)
          c.in_ok-header.ensures.reads c.in_ok-take.ensures.reads c.in_ok-end_of_input.ensures.reads;
    }

pub returns-in_err-header-clause-wanting : goal.returns-in_err-header-clause-wanting
returns-in_err-header-clause-wanting g c =
    let left = g.S.Source.left in
    let old = c.new-lines.result in
    let mid = c.read_header.new.lines in
    let a = left c.args.src.now in
    let b = left c.read_header.new.src in
    let new : IsNew old = record { held = c.new-lines.ensures.held; done = c.new-lines.ensures.done; number = c.new-lines.ensures.number } in
    let p = err_from_is_err_and c.from_residual.result c.from_residual.ensures.1 in
    rw (p.1, p.2) (wants_new {T = Heading} Job old a (Err c.in_err-header.field-0.0) new c.in_err-header.ensures.wanting)

pub returns-in_err-take-clause-wanting : goal.returns-in_err-take-clause-wanting
returns-in_err-take-clause-wanting g c =
    let left = g.S.Source.left in
    let old = c.new-lines.result in
    let mid = c.read_header.new.lines in
    let a = left c.args.src.now in
    let b = left c.read_header.new.src in
    let new : IsNew old = record { held = c.new-lines.ensures.held; done = c.new-lines.ensures.done; number = c.new-lines.ensures.number } in
    wants_if_err Job a c.from_residual-in_err-take.result (begins_new Job c.in_ok-header.header old mid a b new c.in_ok-header.ensures.reads)

pub returns-in_err-end_of_input-clause-wanting : goal.returns-in_err-end_of_input-clause-wanting
returns-in_err-end_of_input-clause-wanting g c =
    let left = g.S.Source.left in
    let old = c.new-lines.result in
    let mid = c.read_header.new.lines in
    let a = left c.args.src.now in
    let b = left c.read_header.new.src in
    let new : IsNew old = record { held = c.new-lines.ensures.held; done = c.new-lines.ensures.done; number = c.new-lines.ensures.number } in
    wants_if_err Job a c.from_residual-in_err-end_of_input.result (begins_new Job c.in_ok-header.header old mid a b new c.in_ok-header.ensures.reads)
