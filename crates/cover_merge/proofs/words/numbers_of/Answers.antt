use Rattle.cover_merge.proofs.Uniting.{number_is_found}
use Rattle.cover_merge.proofs.words.numbers_of.Goals as goal

pub unwrap-number-requires : goal.unwrap-number-requires
unwrap-number-requires c =
    number_is_found c.number_of.result c.args.union.now c.args.others.now c.word-item.result c.loop-word.word-index c.loop-word-test.true c.word-item.is
    c.requires.listed c.number_of.ensures
