use Rattle.std.proofs.Common.{length}
use Rattle.std.specs.List.{flat_map}
use Rattle.mcb_ends.proofs.Written.{AppendsPrefix-begun, Writes-then, Writes-failed}
use Rattle.billiards_cli.specs.Commands.Search.{search_text, word_line}
use Rattle.billiards_cli.specs.EndLine.{end_text}
use Rattle.billiards_cli.proofs.commands.search.write_list.Goals as goal

pub returns-in_err-write_words-clause-text : goal.returns-in_err-write_words-clause-text
returns-in_err-write_words-clause-text g c =
    let k = g.K.Sink in
    let words = c.args.words.now in
    let old = k.written c.args.out.now in
    let new = k.written c.write_words.new.out in
    Writes-failed old new c.from_residual.result (search_text words) c.from_residual.ensures.0
    (AppendsPrefix-begun old new (flat_map word_line words) (end_text (length words)) c.in_err-write_words.ensures.text)

pub returns-clause-text : goal.returns-clause-text
returns-clause-text g c =
    let k = g.K.Sink in
    let words = c.args.words.now in
    Writes-then (k.written c.args.out.now) (k.written c.write_words.new.out) (k.written c.write_end.new.out) c.write_end.result
    (flat_map word_line words) (end_text (length words)) c.in_ok-write_words.ensures.text c.write_end.ensures.text
