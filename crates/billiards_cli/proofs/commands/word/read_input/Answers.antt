use Rattle.std.proofs.lemmas.Result.{err_from_is_err_and}
use Rattle.line_grammar.specs.Faults.{refusal_of}
use Rattle.line_grammar.specs.Input.{IsNew}
use Rattle.line_grammar.specs.Part.{line_part, end_of_text}
use Rattle.line_grammar.proofs.Parts.{fails_first, fails_second, takes_text}
use Rattle.billiards_cli.specs.Arguments.{any_word}
use Rattle.billiards_cli.specs.Commands.Word.{word_input}
use Rattle.billiards_cli.proofs.Inputs.{input_fails, input_taken}
use Rattle.billiards_cli.proofs.WordArguments.{any_word_is_form}
use Rattle.billiards_cli.proofs.commands.word.read_input.Goals as goal

pub take-requires-clause-form : goal.take-requires-clause-form
take-requires-clause-form g c = any_word_is_form

pub returns-in_err-word-clause-reads : goal.returns-in_err-word-clause-reads
returns-in_err-word-clause-reads g c =
    let left = g.S.Source.left in
    let old = c.new-lines.result in
    let fresh : IsNew old = record { held = c.new-lines.ensures.held; done = c.new-lines.ensures.done; number = c.new-lines.ensures.number } in
    let fault = c.in_err-word.field-0.0 in
    let p = err_from_is_err_and c.from_residual.result c.from_residual.ensures.1 in
    let fails = fails_first (line_part any_word) (λ _. end_of_text) old c.take.new.lines (left c.args.src.now) (left c.take.new.src)
    (refusal_of fault) c.new-lines.ensures.done c.in_err-word.ensures.reads in
    rw (p.1, p.2) (input_fails word_input refusal_of fault old c.take.new.lines (left c.args.src.now) (left c.take.new.src) fresh fails)

pub returns-in_err-end_of_input-clause-reads : goal.returns-in_err-end_of_input-clause-reads
returns-in_err-end_of_input-clause-reads g c =
    let left = g.S.Source.left in
    let old = c.new-lines.result in
    let fresh : IsNew old = record { held = c.new-lines.ensures.held; done = c.new-lines.ensures.done; number = c.new-lines.ensures.number } in
    let fault = c.in_err-end_of_input.field-0.0 in
    let p = err_from_is_err_and c.from_residual-in_err-end_of_input.result c.from_residual-in_err-end_of_input.ensures.1 in
    let fails = fails_second (line_part any_word) (λ _. end_of_text) c.in_ok-word.word old c.take.new.lines c.end_of_input.new.lines
    (left c.args.src.now) (left c.take.new.src) (left c.end_of_input.new.src) (refusal_of fault) c.in_ok-word.ensures.reads
    c.in_err-end_of_input.ensures.reads in
    rw (p.1, p.2) (input_fails word_input refusal_of fault old c.end_of_input.new.lines (left c.args.src.now) (left c.end_of_input.new.src) fresh fails)

pub returns-clause-reads : goal.returns-clause-reads
returns-clause-reads g c =
    let left = g.S.Source.left in
    let old = c.new-lines.result in
    let fresh : IsNew old = record { held = c.new-lines.ensures.held; done = c.new-lines.ensures.done; number = c.new-lines.ensures.number } in
    let takes = takes_text (line_part any_word) c.in_ok-word.word old c.take.new.lines (left c.args.src.now) (left c.take.new.src)
    (left c.end_of_input.new.src) c.in_ok-word.ensures.reads c.in_ok-end_of_input.ensures.reads in
    input_taken word_input refusal_of c.in_ok-word.word old c.end_of_input.new.lines (left c.args.src.now) (left c.end_of_input.new.src) fresh takes
