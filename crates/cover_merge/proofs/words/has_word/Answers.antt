use Rattle.cover_merge.proofs.Uniting.{found_lists}
use Rattle.cover_merge.proofs.words.has_word.Goals as goal

pub returns : goal.returns
returns c = found_lists c.number_of.result c.is_some.result c.args.union.now c.args.word.now c.is_some.ensures c.number_of.ensures
