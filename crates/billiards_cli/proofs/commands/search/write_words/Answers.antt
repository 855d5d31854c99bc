use Rattle.std.proofs.Common.{ℕ, List, subst}
use Rattle.std.specs.List.{flat_map}
use Rattle.mcb_ends.specs.Bytes.{AppendsPrefix}
use Rattle.mcb_ends.proofs.Written.{AppendsPrefix-flat_map, Writes-failed}
use Rattle.billiards_cli.specs.Commands.Search.{word_line}
use Rattle.billiards_cli.proofs.commands.search.write_words.Goals as goal

pub returns-in_err-write_word-clause-text : goal.returns-in_err-write_word-clause-text
returns-in_err-write_word-clause-text g c =
    let k = g.K.Sink in
    let words = c.args.words.now in
    let old = k.written c.args.out.now in
    let now = k.written c.loop-word.out in
    let new = k.written c.write_word.new.out in
    let item = c.word-item in
    let cut = subst (λ (w : List ℕ). AppendsPrefix now new (word_line w)) item.is c.in_err-write_word.ensures.text in
    let begun = AppendsPrefix-flat_map word_line old now new words c.loop-word.word-index item.result c.loop-word-test.true c.loop-word.invariant.text cut in
    Writes-failed old new c.from_residual.result (flat_map word_line words) c.from_residual.ensures.0 begun
