use Rattle.sine_fixed.proofs.Turning.{numerator_computed}
use Rattle.sine_fixed.proofs.angles.turn_numerator.Goals as goal

pub overflow_add-result : goal.overflow_add-result
overflow_add-result c =
    (numerator_computed c.args.dir c.args.at.now c.from.result c.from-2.result c.requires.near
    c.requires.in_range c.requires.angles c.from.ensures c.from-2.ensures).fits

pub returns-clause-turn : goal.returns-clause-turn
returns-clause-turn c =
    (numerator_computed c.args.dir c.args.at.now c.from.result c.from-2.result c.requires.near
    c.requires.in_range c.requires.angles c.from.ensures c.from-2.ensures).turn

pub returns-clause-size : goal.returns-clause-size
returns-clause-size c =
    (numerator_computed c.args.dir c.args.at.now c.from.result c.from-2.result c.requires.near
    c.requires.in_range c.requires.angles c.from.ensures c.from-2.ensures).size

pub returns-clause-bound : goal.returns-clause-bound
returns-clause-bound c =
    (numerator_computed c.args.dir c.args.at.now c.from.result c.from-2.result c.requires.near
    c.requires.in_range c.requires.angles c.from.ensures c.from-2.ensures).bound
