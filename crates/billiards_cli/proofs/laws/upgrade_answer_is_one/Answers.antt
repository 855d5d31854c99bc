use Rattle.billiards_cli.proofs.OneUpgrade.{upgrade_answer_is_one_lem}
use Rattle.billiards_cli.proofs.laws.upgrade_answer_is_one.Goals as goal

pub returns : goal.returns
returns c = upgrade_answer_is_one_lem
