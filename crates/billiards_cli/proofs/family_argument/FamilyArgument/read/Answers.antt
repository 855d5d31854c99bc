use Rattle.billiards_cli.proofs.FamilyAnswers.{not_spelled}
use Rattle.billiards_cli.proofs.family_argument.FamilyArgument.read.Goals as goal

pub returns-in-Err : goal.returns-in-Err
returns-in-Err c = not_spelled _ _ _ c.args.self.now c.in-Err.field-0 c.self.view_is c.in-Err.ensures
