use Rattle.billiards_cli.proofs.OneAnswer.{word_answer_is_one}
use Rattle.billiards_cli.proofs.laws.word_answer_is_one.Goals as goal

pub returns : goal.returns
returns c = word_answer_is_one
