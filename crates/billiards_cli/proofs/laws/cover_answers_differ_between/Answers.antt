use Rattle.billiards_cli.proofs.OneCovering.{cover_answers_differ_between_lem}
use Rattle.billiards_cli.proofs.laws.cover_answers_differ_between.Goals as goal

pub returns : goal.returns
returns c = cover_answers_differ_between_lem
