use Rattle.std.proofs.Common.{arith}
use Rattle.sine_fixed.proofs.SineTables.{in_parts_of_half, parts_within}
use Rattle.sine_fixed.proofs.grid_angles.in_parts.Goals as goal

pub overflow_mul-result : goal.overflow_mul-result
overflow_mul-result c =
    let within = parts_within c.args.num c.args.den _ c.if-factor-den-eq-HALF_TURN.true c.requires.within in
    record { fits = omega (arith, within) }

pub overflow_cast-result : goal.overflow_cast-result
overflow_cast-result c =
    let within = parts_within c.args.num c.args.den _ c.if-factor-den-eq-HALF_TURN.true c.requires.within in
    record { fits = omega (arith, within) }

pub returns-then-factor-den-eq-HALF_TURN-clause-parts : goal.returns-then-factor-den-eq-HALF_TURN-clause-parts
returns-then-factor-den-eq-HALF_TURN-clause-parts c =
    in_parts_of_half c.args.num c.args.den _ c.requires.positive c.if-factor-den-eq-HALF_TURN.true

pub returns-then-factor-den-eq-HALF_TURN-clause-within : goal.returns-then-factor-den-eq-HALF_TURN-clause-within
returns-then-factor-den-eq-HALF_TURN-clause-within c =
    parts_within c.args.num c.args.den _ c.if-factor-den-eq-HALF_TURN.true c.requires.within
