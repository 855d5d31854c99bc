use Rattle.std.proofs.Common.{codes, arith}
use Rattle.std.proofs.lemmas.Result.{err_from_is_err_and}
use Rattle.line_grammar.proofs.Parts.{fails_first}
use Rattle.covering_file.specs.declared.TheConstants.{MAX_WORDS}
use Rattle.covering_file.specs.HeaderPart.{named_part, listed_part}
use Rattle.covering_file.proofs.HeadFaults.{same_refusal}
use Rattle.covering_file.proofs.HeadLines.{words_is_form}
use Rattle.covering_file.proofs.HeaderParts.{words_read, words_not_read}
use Rattle.covering_file.proofs.words.read_words.Goals as goal

pub take-requires-clause-form : goal.take-requires-clause-form
take-requires-clause-form g c = words_is_form 1 MAX_WORDS (omega arith)

pub returns-in_err-count-clause-fails : goal.returns-in_err-count-clause-fails
returns-in_err-count-clause-fails g c =
    let left = g.S.Source.left in
    let p = err_from_is_err_and c.from_residual.result c.from_residual.ensures.1 in
    rw (p.1, p.2, same_refusal c.in_err-count.field-0.0)
    (fails_first (named_part (codes "words") 1 MAX_WORDS) listed_part c.args.lines.now c.take.new.lines (left c.args.src.now)
    (left c.take.new.src) _ c.requires.reading c.in_err-count.ensures.reads)

pub returns-clause-words : goal.returns-clause-words
returns-clause-words g c =
    let left = g.S.Source.left in
    words_read c.read_listed.result (λ words. words.items) c.in_ok-count.count c.args.lines.now c.take.new.lines c.read_listed.new.lines
    (left c.args.src.now) (left c.take.new.src) (left c.read_listed.new.src) c.in_ok-count.ensures.reads c.read_listed.ensures.words

pub returns-clause-fails : goal.returns-clause-fails
returns-clause-fails g c =
    let left = g.S.Source.left in
    words_not_read c.read_listed.result c.in_ok-count.count c.args.lines.now c.take.new.lines c.read_listed.new.lines
    (left c.args.src.now) (left c.take.new.src) (left c.read_listed.new.src) c.in_ok-count.ensures.reads c.read_listed.ensures.fails
