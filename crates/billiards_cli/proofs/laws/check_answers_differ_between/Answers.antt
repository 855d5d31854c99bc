use Rattle.billiards_cli.proofs.OneVerdict.{check_answers_differ_between_lem}
use Rattle.billiards_cli.proofs.laws.check_answers_differ_between.Goals as goal

pub returns : goal.returns
returns c = check_answers_differ_between_lem
