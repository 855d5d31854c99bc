-- Two files are read, or the first line of both that offends is named.
use Rattle.std.proofs.lemmas.Result.{err_from_is_err_and}
use Rattle.line_grammar.specs.Input.{IsNew}
use Rattle.covering_file.specs.Faults.{head_refusal, head_of}
use Rattle.covering_file.specs.declared.file_kind.FileKind.TheVariants.{Cover}
use Rattle.covering_file.proofs.HeadFaults.{same_refusal}
use Rattle.covering_file.proofs.TreeFiles.{file_begins_new}
use Rattle.covering_file.proofs.Wanting.{wants_if_err}
use Rattle.cover_merge.proofs.TwoFiles.{first_fails, second_fails, end_fails, both_taken}
use Rattle.cover_merge.proofs.files.read_files.Goals as goal

pub returns-in_err-first-clause-reads : goal.returns-in_err-first-clause-reads
returns-in_err-first-clause-reads g c =
    let left = g.S.Source.left in
    let old = c.new-lines.result in
    let fresh : IsNew old = record { held = c.new-lines.ensures.held; done = c.new-lines.ensures.done; number = c.new-lines.ensures.number } in
    let p = err_from_is_err_and c.from_residual.result c.from_residual.ensures.1 in
    let fails = first_fails c.args.limit old c.read_tree.new.lines (left c.args.src.now) (left c.read_tree.new.src) (head_refusal c.in_err-first.field-0.0)
    c.new-lines.ensures.done c.in_err-first.ensures.reads in
    rw (p.1, p.2) (record { old = old; new = c.read_tree.new.lines; is_new = fresh; reads = fails })

pub returns-in_err-second-clause-reads : goal.returns-in_err-second-clause-reads
returns-in_err-second-clause-reads g c =
    let left = g.S.Source.left in
    let old = c.new-lines.result in
    let fresh : IsNew old = record { held = c.new-lines.ensures.held; done = c.new-lines.ensures.done; number = c.new-lines.ensures.number } in
    let p = err_from_is_err_and c.from_residual-in_err-second.result c.from_residual-in_err-second.ensures.1 in
    let fails = second_fails c.args.limit c.in_ok-first.first old c.read_tree.new.lines c.read_tree-2.new.lines (left c.args.src.now)
    (left c.read_tree.new.src) (left c.read_tree-2.new.src) (head_refusal c.in_err-second.field-0.0) c.new-lines.ensures.done c.in_ok-first.ensures.reads
    c.in_err-second.ensures.reads in
    rw (p.1, p.2) (record { old = old; new = c.read_tree-2.new.lines; is_new = fresh; reads = fails })

pub returns-in_err-second-clause-wanting : goal.returns-in_err-second-clause-wanting
returns-in_err-second-clause-wanting g c =
    let left = g.S.Source.left in
    let old = c.new-lines.result in
    let fresh : IsNew old = record { held = c.new-lines.ensures.held; done = c.new-lines.ensures.done; number = c.new-lines.ensures.number } in
    wants_if_err Cover (left c.args.src.now) c.from_residual-in_err-second.result
    (file_begins_new c.args.limit c.in_ok-first.first old c.read_tree.new.lines (left c.args.src.now) (left c.read_tree.new.src) fresh
    c.in_ok-first.ensures.reads)

pub returns-in_err-end_of_input-clause-reads : goal.returns-in_err-end_of_input-clause-reads
returns-in_err-end_of_input-clause-reads g c =
    let left = g.S.Source.left in
    let old = c.new-lines.result in
    let fresh : IsNew old = record { held = c.new-lines.ensures.held; done = c.new-lines.ensures.done; number = c.new-lines.ensures.number } in
    let fault = c.in_err-end_of_input.field-0.0 in
    let p = err_from_is_err_and c.from_residual-in_err-end_of_input.result c.from_residual-in_err-end_of_input.ensures.1 in
    let fails = end_fails c.args.limit c.in_ok-first.first c.in_ok-second.second old c.read_tree.new.lines c.read_tree-2.new.lines c.end_of_input.new.lines
    (left c.args.src.now) (left c.read_tree.new.src) (left c.read_tree-2.new.src) (left c.end_of_input.new.src) (head_refusal (head_of fault))
    c.in_ok-first.ensures.reads c.in_ok-second.ensures.reads (rw (same_refusal fault) c.in_err-end_of_input.ensures.reads) in
    rw (p.1, p.2) (record { old = old; new = c.end_of_input.new.lines; is_new = fresh; reads = fails })

pub returns-clause-reads : goal.returns-clause-reads
returns-clause-reads g c =
    let left = g.S.Source.left in
    let old = c.new-lines.result in
    let fresh : IsNew old = record { held = c.new-lines.ensures.held; done = c.new-lines.ensures.done; number = c.new-lines.ensures.number } in
    let takes = both_taken c.args.limit c.in_ok-first.first c.in_ok-second.second old c.read_tree.new.lines c.read_tree-2.new.lines (left c.args.src.now)
    (left c.read_tree.new.src) (left c.read_tree-2.new.src) (left c.end_of_input.new.src) c.in_ok-first.ensures.reads c.in_ok-second.ensures.reads
    c.in_ok-end_of_input.ensures.reads in
    record { old = old; new = c.end_of_input.new.lines; is_new = fresh; reads = takes }

pub returns-clause-begins : goal.returns-clause-begins
returns-clause-begins g c =
    let left = g.S.Source.left in
    let old = c.new-lines.result in
    let fresh : IsNew old = record { held = c.new-lines.ensures.held; done = c.new-lines.ensures.done; number = c.new-lines.ensures.number } in
    file_begins_new c.args.limit c.in_ok-first.first old c.read_tree.new.lines (left c.args.src.now) (left c.read_tree.new.src) fresh
    c.in_ok-first.ensures.reads
