use Rattle.billiards_cli.proofs.OneAnswer.{at_answers_differ_between}
use Rattle.billiards_cli.proofs.laws.at_answers_differ_between.Goals as goal

pub returns : goal.returns
returns c = at_answers_differ_between
