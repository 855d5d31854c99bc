use Rattle.rat_core.specs.Written.{value}
use Rattle.sine_fixed.proofs.Turning.{unit_triangle}
use Rattle.plane_points.proofs.plane.Plane.at.Goals as goal

pub over_one_denominator-requires-clause-x_least : goal.over_one_denominator-requires-clause-x_least
over_one_denominator-requires-clause-x_least c = (unit_triangle (value c.args.x) (value c.args.y) c.requires.first c.requires.second c.requires.third).0

pub over_one_denominator-requires-clause-x_most : goal.over_one_denominator-requires-clause-x_most
over_one_denominator-requires-clause-x_most c = (unit_triangle (value c.args.x) (value c.args.y) c.requires.first c.requires.second c.requires.third).1

pub over_one_denominator-requires-clause-y_least : goal.over_one_denominator-requires-clause-y_least
over_one_denominator-requires-clause-y_least c = (unit_triangle (value c.args.x) (value c.args.y) c.requires.first c.requires.second c.requires.third).2

pub over_one_denominator-requires-clause-y_most : goal.over_one_denominator-requires-clause-y_most
over_one_denominator-requires-clause-y_most c = (unit_triangle (value c.args.x) (value c.args.y) c.requires.first c.requires.second c.requires.third).3
