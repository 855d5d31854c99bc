use Rattle.std.proofs.Common.{sym, ap₂, ◌∙◌, Some}
use Rattle.rat_core.specs.Written.{Written, value}
use Rattle.gradient_bounds.proofs.Tests.{centre_in_unit}
use Rattle.gradient_bounds.proofs.prepared.Prepared.move_to_centre.Goals as goal

pub move_to-requires-clause-x_least : goal.move_to-requires-clause-x_least
move_to-requires-clause-x_least g c =
    (centre_in_unit c.args.place c.centre-x.result.0 c.centre-x.result.1 c.centre-x.ensures.is_box c.centre-x.ensures.x c.centre-x.ensures.y).0.least

pub move_to-requires-clause-x_most : goal.move_to-requires-clause-x_most
move_to-requires-clause-x_most g c =
    (centre_in_unit c.args.place c.centre-x.result.0 c.centre-x.result.1 c.centre-x.ensures.is_box c.centre-x.ensures.x c.centre-x.ensures.y).0.most

pub move_to-requires-clause-y_least : goal.move_to-requires-clause-y_least
move_to-requires-clause-y_least g c =
    (centre_in_unit c.args.place c.centre-x.result.0 c.centre-x.result.1 c.centre-x.ensures.is_box c.centre-x.ensures.x c.centre-x.ensures.y).1.least

pub move_to-requires-clause-y_most : goal.move_to-requires-clause-y_most
move_to-requires-clause-y_most g c =
    (centre_in_unit c.args.place c.centre-x.result.0 c.centre-x.result.1 c.centre-x.ensures.is_box c.centre-x.ensures.x c.centre-x.ensures.y).1.most

pub move_to-requires-clause-x_denominator : goal.move_to-requires-clause-x_denominator
move_to-requires-clause-x_denominator g c =
    (centre_in_unit c.args.place c.centre-x.result.0 c.centre-x.result.1 c.centre-x.ensures.is_box c.centre-x.ensures.x c.centre-x.ensures.y).0.small

pub move_to-requires-clause-y_denominator : goal.move_to-requires-clause-y_denominator
move_to-requires-clause-y_denominator g c =
    (centre_in_unit c.args.place c.centre-x.result.0 c.centre-x.result.1 c.centre-x.ensures.is_box c.centre-x.ensures.x c.centre-x.ensures.y).1.small

pub returns-clause-point : goal.returns-clause-point
returns-clause-point g c = c.move_to.ensures.point ∙ ap₂ (λ (x y : Written). Some (x, y)) c.centre-x.ensures.x c.centre-x.ensures.y

pub returns-clause-centre : goal.returns-clause-centre
returns-clause-centre g c =
    sym (ap₂ (λ (x y : Written). record { x = value x; y = value y }) c.centre-x.ensures.x c.centre-x.ensures.y) ∙ c.centre-x.ensures.is_centre
