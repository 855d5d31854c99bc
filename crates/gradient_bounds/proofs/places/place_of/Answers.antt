use Rattle.std.proofs.Common.{arith}
use Rattle.gradient_bounds.proofs.Placing.{place_missing}
use Rattle.gradient_bounds.proofs.places.place_of.Goals as goal

pub returns : goal.returns
returns c = place_missing c.args.table.now c.args.dir (λ j e below. c.loop-i.invariant j e (omega (arith, below, c.loop-i-test.false)))
