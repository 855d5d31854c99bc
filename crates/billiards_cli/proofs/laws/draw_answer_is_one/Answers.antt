use Rattle.billiards_cli.proofs.OneDrawing.{draw_answer_is_one_lem}
use Rattle.billiards_cli.proofs.laws.draw_answer_is_one.Goals as goal

pub returns : goal.returns
returns c = draw_answer_is_one_lem
