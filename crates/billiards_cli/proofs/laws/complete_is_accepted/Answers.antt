use Rattle.billiards_cli.proofs.CoverAnswers.{complete_is_accepted}
use Rattle.billiards_cli.proofs.laws.complete_is_accepted.Goals as goal

pub returns : goal.returns
returns c = complete_is_accepted
