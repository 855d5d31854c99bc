use Rattle.std.proofs.Common.{length, map, codes}
use Rattle.edge_words.specs.Reading.{digits_of}
use Rattle.mcb_ends.proofs.Written.{AppendsPrefix-begun, Writes-then, Writes-failed}
use Rattle.line_grammar.specs.Text.{named_line}
use Rattle.covering_file.specs.Header.{words_lines}
use Rattle.line_grammar.specs.Text.{text_of, with_newline}
use Rattle.covering_file.proofs.writing.write_words.Goals as goal

pub returns-in_err-write_named-clause-text : goal.returns-in_err-write_named-clause-text
returns-in_err-write_named-clause-text g c =
    let k = g.K.Sink in
    let ws = c.args.words.now in
    let old = k.written c.args.out.now in
    let new = k.written c.write_named.new.out in
    Writes-failed old new c.from_residual.result (text_of (words_lines ws)) c.from_residual.ensures.0
    (AppendsPrefix-begun old new (with_newline (named_line (codes "words") (length ws))) (text_of (map digits_of ws)) c.in_err-write_named.ensures.text)

pub returns-clause-text : goal.returns-clause-text
returns-clause-text g c =
    let k = g.K.Sink in
    let ws = c.args.words.now in
    Writes-then (k.written c.args.out.now) (k.written c.write_named.new.out) (k.written c.write_letters.new.out) c.write_letters.result
    (with_newline (named_line (codes "words") (length ws))) (text_of (map digits_of ws)) c.in_ok-write_named.ensures.text c.write_letters.ensures.text
