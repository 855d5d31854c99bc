use Rattle.std.proofs.Common.{arith}
use Rattle.exp_sums.proofs.Within.{IsWithin-weaker}
use Rattle.billiards_cli.proofs.commands.points.rows.shift_spot.Goals as goal

pub spot-requires : goal.spot-requires
spot-requires c = IsWithin-weaker 65 1000 _ (omega arith) c.in-Some.ensures.within

pub returns-in-Some-clause-some : goal.returns-in-Some-clause-some
returns-in-Some-clause-some c = (c.in-Some.shift.now, c.in-Some.ensures.is, c.spot.ensures.spot)
