use Rattle.std.proofs.Common.{ℕ, List, subst}
use Rattle.edge_words.specs.Reading.{digits_of}
use Rattle.mcb_ends.specs.Bytes.{AppendsPrefix}
use Rattle.line_grammar.specs.Text.{with_newline}
use Rattle.covering_file.proofs.Texts.{cut_in_list}
use Rattle.covering_file.proofs.writing.write_letters.Goals as goal

pub returns-in_err-write_word-clause-text : goal.returns-in_err-write_word-clause-text
returns-in_err-write_word-clause-text g c =
    let k = g.K.Sink in
    let now = k.written c.loop-word.out in
    let new = k.written c.write_word.new.out in
    let item = c.word-item in
    let cut = subst (λ (w : List ℕ). AppendsPrefix now new (with_newline (digits_of w))) item.is c.in_err-write_word.ensures.text in
    cut_in_list digits_of
    (k.written c.args.out.now) now new c.from_residual.result c.args.words.now c.loop-word.word-index item.result c.loop-word-test.true
    c.loop-word.invariant.text cut c.from_residual.ensures.0
