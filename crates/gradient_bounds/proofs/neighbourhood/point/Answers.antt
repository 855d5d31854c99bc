use Rattle.std.proofs.Common.{unsigned_abs}
use Rattle.rat_core.specs.Written.{value}
use Rattle.rat_core.proofs.Laws.{over-zero}
use Rattle.sine_fixed.proofs.Turning.{unit_triangle}
use Rattle.gradient_bounds.proofs.neighbourhood.point.Goals as goal

pub over_one_denominator-requires-clause-x_least : goal.over_one_denominator-requires-clause-x_least
over_one_denominator-requires-clause-x_least c = (unit_triangle (value c.args.x) (value c.args.y) c.requires.first c.requires.second c.requires.third).0

pub over_one_denominator-requires-clause-x_most : goal.over_one_denominator-requires-clause-x_most
over_one_denominator-requires-clause-x_most c = (unit_triangle (value c.args.x) (value c.args.y) c.requires.first c.requires.second c.requires.third).1

pub over_one_denominator-requires-clause-y_least : goal.over_one_denominator-requires-clause-y_least
over_one_denominator-requires-clause-y_least c = (unit_triangle (value c.args.x) (value c.args.y) c.requires.first c.requires.second c.requires.third).2

pub over_one_denominator-requires-clause-y_most : goal.over_one_denominator-requires-clause-y_most
over_one_denominator-requires-clause-y_most c = (unit_triangle (value c.args.x) (value c.args.y) c.requires.first c.requires.second c.requires.third).3

pub returns-clause-ball : goal.returns-clause-ball
returns-clause-ball c = λ i. record {
  x = c.over_one_denominator.ensures.first i;
  y = c.over_one_denominator.ensures.second i;
  radius = over-zero
      (unsigned_abs c.over_one_denominator.result.den) i;
}
