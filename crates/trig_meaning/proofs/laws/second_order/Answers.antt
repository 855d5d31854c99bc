use Rattle.trig_meaning.proofs.SecondOrder.{second_order_lem}
use Rattle.trig_meaning.proofs.laws.second_order.Goals as goal

pub returns : goal.returns
returns c = second_order_lem
