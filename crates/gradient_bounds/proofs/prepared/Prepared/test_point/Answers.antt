use Rattle.std.proofs.Common.{◌↔◌, subst, sym, ap, subst₂}
use Rattle.std.specs.Prelude.{IsTrue}
use Rattle.rat_core.specs.Written.{value}
use Rattle.gradient_bounds.specs.Corridor.{EachFunction}
use Rattle.gradient_bounds.specs.Clear.{slack}
use Rattle.gradient_bounds.specs.Decision.{needed_by, EachReaches}
use Rattle.gradient_bounds.specs.Neighbourhood.{Ball, IsClearIn}
use Rattle.gradient_bounds.specs.Table.{no_drift}
use Rattle.gradient_bounds.proofs.Boxes.{clear_at_point, clear_in_point}
use Rattle.gradient_bounds.proofs.Margins.{slack_positive, clear_at_point_gives_corridor_lem}
use Rattle.sine_fixed.proofs.Turning.{unit_triangle}
use Rattle.gradient_bounds.proofs.Tested.{no_drift_is}
use Rattle.gradient_bounds.proofs.Tests.{IsEachTest, numbers_up, numbers_low, each_test}
use Rattle.gradient_bounds.proofs.Numbers.{IsScale, needed}
use Rattle.gradient_bounds.proofs.prepared.Prepared.test_point.Given as given
use Rattle.gradient_bounds.proofs.prepared.Prepared.test_point.Goals as goal

scale : (g : given.Over) → IsScale g.S.Scale.BITS g.S.Scale.LOW_BITS g.S.Scale.HIGH_BITS g.S.Scale.PI_LO g.S.Scale.PI_HI
scale g = record { one_unit = g.S.Scale.one_unit; pi = g.S.Scale.pi_between; apart = g.S.Scale.slacks.0; room = g.S.Scale.slacks.1 }

pub move_to-requires-clause-x_least : goal.move_to-requires-clause-x_least
move_to-requires-clause-x_least g c = (unit_triangle (value c.args.x) (value c.args.y) c.requires.first c.requires.second c.requires.third).0

pub move_to-requires-clause-x_most : goal.move_to-requires-clause-x_most
move_to-requires-clause-x_most g c = (unit_triangle (value c.args.x) (value c.args.y) c.requires.first c.requires.second c.requires.third).1

pub move_to-requires-clause-y_least : goal.move_to-requires-clause-y_least
move_to-requires-clause-y_least g c = (unit_triangle (value c.args.x) (value c.args.y) c.requires.first c.requires.second c.requires.third).2

pub move_to-requires-clause-y_most : goal.move_to-requires-clause-y_most
move_to-requires-clause-y_most g c = (unit_triangle (value c.args.x) (value c.args.y) c.requires.first c.requires.second c.requires.third).3

pub each_reaches-requires-clause-uppers : goal.each_reaches-requires-clause-uppers
each_reaches-requires-clause-uppers g c =
    let i = c.self.inside in
    numbers_up g.S.Scale.BITS i.word i.functions i.point i.table.items i.uppers.items i.lowers.items c.deref.result.now
    c.deref-2.result.now c.self.invariant c.deref.ensures.value c.deref-2.ensures.value

pub each_reaches-requires-clause-lowers : goal.each_reaches-requires-clause-lowers
each_reaches-requires-clause-lowers g c =
    let i = c.self.inside in
    numbers_low g.S.Scale.BITS i.word i.functions i.point i.table.items i.uppers.items i.lowers.items c.deref.result.now
    c.deref-2.result.now c.self.invariant c.deref.ensures.value c.deref-2.ensures.value

-- what was decided, by what functions need in the neighbourhood
decision : (g : given.Over) (c : goal.After-each_reaches g)
    → IsTrue c.each_reaches.result ↔ EachReaches (needed g.S.Scale.BITS g.S.Scale.LOW_BITS g.S.Scale.PI_HI c.point.result) c.self.inside.functions c.deref.result.now
    c.deref-2.result.now
decision g c =
    subst (λ t. IsTrue c.each_reaches.result ↔ EachReaches (needed_by t) c.self.inside.functions c.deref.result.now c.deref-2.result.now)
    c.drift_threshold.ensures.is c.each_reaches.ensures

is : (g : given.Over) (c : goal.After-each_reaches g)
    → IsEachTest g.S.Scale.BITS g.S.Scale.LOW_BITS g.S.Scale.HIGH_BITS g.S.Scale.PI_HI c.self.inside.functions c.deref.result.now
    c.deref-2.result.now c.point.result no_drift c.move_to.new.self
is g c =
    let i = c.self.inside in
    let r = c.point.result in
    let near = c.point.ensures.neighbourhood in
    each_test g.S.Scale.BITS i.word i.functions i.point i.table.items i.uppers.items i.lowers.items c.deref.result.now
    c.deref-2.result.now c.self.invariant c.deref.ensures.value c.deref-2.ensures.value g.S.Scale.LOW_BITS g.S.Scale.HIGH_BITS
    g.S.Scale.PI_LO g.S.Scale.PI_HI (scale g) c.move_to.new.self
    c.self.view_is c.args.x c.args.y c.move_to.ensures.point r near (ap (λ (b : Ball). b.x) c.point.ensures.ball)
    (ap (λ (b : Ball). b.y) c.point.ensures.ball) no_drift (no_drift_is g.S.Scale.PI_HI r c.point.ensures.radius near.angles.positive)

pub returns-clause-decided : goal.returns-clause-decided
returns-clause-decided g c = (λ t. (is g c).decided.0 ((decision g c).0 t), λ e. (decision g c).1 ((is g c).decided.1 e))

pub returns-clause-clear : goal.returns-clause-clear
returns-clause-clear g c =
    λ passed. clear_at_point c.args.self.now.word (value c.args.x) (value c.args.y) (slack g.S.Scale.LOW_BITS)
    (subst₂ (λ w b. EachFunction w (IsClearIn b (slack g.S.Scale.LOW_BITS))) c.move_to.ensures.word c.point.ensures.ball
    ((is g c).clear ((decision g c).0 passed)))

pub returns-clause-found : goal.returns-clause-found
returns-clause-found g c =
    λ clear. (decision g c).1
    ((is g c).found (subst₂ (λ w b. EachFunction w (IsClearIn b (slack g.S.Scale.HIGH_BITS))) (sym c.move_to.ensures.word) (sym c.point.ensures.ball)
    (clear_in_point c.args.self.now.word (value c.args.x) (value c.args.y) (slack g.S.Scale.HIGH_BITS) clear)))

pub returns-clause-corridor : goal.returns-clause-corridor
returns-clause-corridor g c =
    λ passed. clear_at_point_gives_corridor_lem c.args.self.now.word (value c.args.x) (value c.args.y) (slack g.S.Scale.LOW_BITS)
    (slack_positive g.S.Scale.LOW_BITS) (returns-clause-clear g c passed)
