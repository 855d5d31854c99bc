use Rattle.std.proofs.Common.{Err}
use Rattle.std.proofs.lemmas.Result.{err_from_is_err_and}
use Rattle.line_grammar.specs.Input.{IsNew}
use Rattle.line_grammar.specs.Part.{end_of_text}
use Rattle.line_grammar.proofs.Parts.{fails_first, fails_second, takes_text}
use Rattle.covering_file.specs.Faults.{head_refusal, head_of}
use Rattle.covering_file.specs.TreeFile.{TreeFile, tree_file_part}
use Rattle.covering_file.specs.declared.TheConstants.{MAX_NODES}
use Rattle.covering_file.specs.declared.file_kind.FileKind.TheVariants.{Cover}
use Rattle.covering_file.proofs.HeadFaults.{same_refusal}
use Rattle.covering_file.proofs.JobParts.{wants_new}
use Rattle.covering_file.proofs.TreeFiles.{file_begins_new}
use Rattle.covering_file.proofs.Wanting.{wants_if_err}
use Rattle.billiards_cli.specs.WholeFile.{file_input}
use Rattle.billiards_cli.proofs.Inputs.{input_fails, input_taken}
use Rattle.billiards_cli.proofs.whole_file.read_file.Goals as goal

pub returns-in_err-tree-clause-reads : goal.returns-in_err-tree-clause-reads
returns-in_err-tree-clause-reads g c =
    let left = g.S.Source.left in
    let old = c.new-lines.result in
    let fresh : IsNew old = record { held = c.new-lines.ensures.held; done = c.new-lines.ensures.done; number = c.new-lines.ensures.number } in
    let fault = c.in_err-tree.field-0.0 in
    let p = err_from_is_err_and c.from_residual.result c.from_residual.ensures.1 in
    let fails = fails_first (tree_file_part MAX_NODES) (λ _. end_of_text) old c.read_tree.new.lines (left c.args.src.now) (left c.read_tree.new.src)
    (head_refusal fault) c.new-lines.ensures.done c.in_err-tree.ensures.reads in
    rw (p.1, p.2) (input_fails file_input head_refusal fault old c.read_tree.new.lines (left c.args.src.now) (left c.read_tree.new.src) fresh fails)

pub returns-in_err-end_of_input-clause-reads : goal.returns-in_err-end_of_input-clause-reads
returns-in_err-end_of_input-clause-reads g c =
    let left = g.S.Source.left in
    let old = c.new-lines.result in
    let new = c.end_of_input.new.lines in
    let fresh : IsNew old = record { held = c.new-lines.ensures.held; done = c.new-lines.ensures.done; number = c.new-lines.ensures.number } in
    let fault = c.in_err-end_of_input.field-0.0 in
    let p = err_from_is_err_and c.from_residual-in_err-end_of_input.result c.from_residual-in_err-end_of_input.ensures.1 in
    let fails = fails_second (tree_file_part MAX_NODES) (λ _. end_of_text) c.in_ok-tree.tree old c.read_tree.new.lines new
    (left c.args.src.now) (left c.read_tree.new.src) (left c.end_of_input.new.src) (head_refusal (head_of fault)) c.in_ok-tree.ensures.reads
    (rw (same_refusal fault) c.in_err-end_of_input.ensures.reads) in
    rw (p.1, p.2) (input_fails file_input head_refusal (head_of fault) old new (left c.args.src.now) (left c.end_of_input.new.src) fresh fails)

pub returns-clause-reads : goal.returns-clause-reads
returns-clause-reads g c =
    let left = g.S.Source.left in
    let old = c.new-lines.result in
    let fresh : IsNew old = record { held = c.new-lines.ensures.held; done = c.new-lines.ensures.done; number = c.new-lines.ensures.number } in
    let takes = takes_text (tree_file_part MAX_NODES) c.in_ok-tree.tree old c.read_tree.new.lines (left c.args.src.now) (left c.read_tree.new.src)
    (left c.end_of_input.new.src) c.in_ok-tree.ensures.reads c.in_ok-end_of_input.ensures.reads in
    input_taken file_input head_refusal c.in_ok-tree.tree old c.end_of_input.new.lines (left c.args.src.now) (left c.end_of_input.new.src) fresh takes

pub returns-in_err-tree-clause-wanting : goal.returns-in_err-tree-clause-wanting
returns-in_err-tree-clause-wanting g c =
    let left = g.S.Source.left in
    let old = c.new-lines.result in
    let fresh : IsNew old = record { held = c.new-lines.ensures.held; done = c.new-lines.ensures.done; number = c.new-lines.ensures.number } in
    let p = err_from_is_err_and c.from_residual.result c.from_residual.ensures.1 in
    rw (p.1, p.2) (wants_new {T = TreeFile} Cover old (left c.args.src.now) (Err c.in_err-tree.field-0.0) fresh c.in_err-tree.ensures.wanting)

pub returns-in_err-end_of_input-clause-wanting : goal.returns-in_err-end_of_input-clause-wanting
returns-in_err-end_of_input-clause-wanting g c =
    let left = g.S.Source.left in
    let old = c.new-lines.result in
    let fresh : IsNew old = record { held = c.new-lines.ensures.held; done = c.new-lines.ensures.done; number = c.new-lines.ensures.number } in
    wants_if_err Cover (left c.args.src.now) c.from_residual-in_err-end_of_input.result
    (file_begins_new MAX_NODES c.in_ok-tree.tree old c.read_tree.new.lines (left c.args.src.now) (left c.read_tree.new.src) fresh c.in_ok-tree.ensures.reads)
