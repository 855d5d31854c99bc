use Rattle.std.proofs.Common.{◌↔◌, subst, sym, ap, subst₂, ◌∙◌}
use Rattle.std.specs.Prelude.{IsTrue}
use Rattle.rational_polygon.specs.Point.{Point}
use Rattle.gradient_bounds.specs.Corridor.{EachFunction}
use Rattle.gradient_bounds.specs.Clear.{slack}
use Rattle.gradient_bounds.specs.Decision.{needed_by, EachReaches}
use Rattle.gradient_bounds.specs.Neighbourhood.{Ball, IsClearIn}
use Rattle.gradient_bounds.specs.Table.{centre_of, box_drift}
use Rattle.gradient_bounds.proofs.Boxes.{clear_gives_corridor_lem}
use Rattle.gradient_bounds.proofs.Margins.{slack_positive}
use Rattle.gradient_bounds.proofs.Tested.{box_drift_is}
use Rattle.gradient_bounds.proofs.Tests.{IsEachTest, numbers_up, numbers_low, each_test}
use Rattle.gradient_bounds.proofs.Numbers.{IsScale, needed}
use Rattle.gradient_bounds.proofs.prepared.Prepared.test_box.Given as given
use Rattle.gradient_bounds.proofs.prepared.Prepared.test_box.Goals as goal

scale : (g : given.Over) → IsScale g.S.Scale.BITS g.S.Scale.LOW_BITS g.S.Scale.HIGH_BITS g.S.Scale.PI_LO g.S.Scale.PI_HI
scale g = record { one_unit = g.S.Scale.one_unit; pi = g.S.Scale.pi_between; apart = g.S.Scale.slacks.0; room = g.S.Scale.slacks.1 }

pub each_reaches-requires-clause-uppers : goal.each_reaches-requires-clause-uppers
each_reaches-requires-clause-uppers g c =
    let i = c.self.inside in
    numbers_up g.S.Scale.BITS i.word i.functions i.point i.table.items i.uppers.items i.lowers.items c.deref.result.now
    c.deref-2.result.now c.self.invariant c.deref.ensures.value c.deref-2.ensures.value

pub each_reaches-requires-clause-lowers : goal.each_reaches-requires-clause-lowers
each_reaches-requires-clause-lowers g c =
    let i = c.self.inside in
    numbers_low g.S.Scale.BITS i.word i.functions i.point i.table.items i.uppers.items i.lowers.items c.deref.result.now
    c.deref-2.result.now c.self.invariant c.deref.ensures.value c.deref-2.ensures.value

-- what was decided, by what functions need in the neighbourhood
decision : (g : given.Over) (c : goal.After-each_reaches g)
    → IsTrue c.each_reaches.result ↔ EachReaches (needed g.S.Scale.BITS g.S.Scale.LOW_BITS g.S.Scale.PI_HI c.square.result) c.self.inside.functions c.deref.result.now
    c.deref-2.result.now
decision g c =
    subst (λ t. IsTrue c.each_reaches.result ↔ EachReaches (needed_by t) c.self.inside.functions c.deref.result.now c.deref-2.result.now)
    c.drift_threshold.ensures.is c.each_reaches.ensures

is : (g : given.Over) (c : goal.After-each_reaches g)
    → IsEachTest g.S.Scale.BITS g.S.Scale.LOW_BITS g.S.Scale.HIGH_BITS g.S.Scale.PI_HI c.self.inside.functions c.deref.result.now
    c.deref-2.result.now c.square.result (box_drift g.S.Scale.PI_HI c.args.place) c.move_to_centre.new.self
is g c =
    let i = c.self.inside in
    let r = c.square.result in
    let near = c.square.ensures.neighbourhood in
    each_test g.S.Scale.BITS i.word i.functions i.point i.table.items i.uppers.items i.lowers.items c.deref.result.now
    c.deref-2.result.now c.self.invariant c.deref.ensures.value c.deref-2.ensures.value g.S.Scale.LOW_BITS g.S.Scale.HIGH_BITS
    g.S.Scale.PI_LO g.S.Scale.PI_HI (scale g) c.move_to_centre.new.self
    c.self.view_is (centre_of c.args.place).0 (centre_of c.args.place).1 c.move_to_centre.ensures.point r near (ap (λ
    (b : Ball). b.x) c.square.ensures.ball ∙ sym (ap (λ (q : Point). q.x) c.move_to_centre.ensures.centre))
    (ap (λ (b : Ball). b.y) c.square.ensures.ball ∙ sym (ap (λ (q : Point). q.y) c.move_to_centre.ensures.centre))
    (box_drift g.S.Scale.PI_HI c.args.place) (box_drift_is g.S.Scale.PI_HI c.args.place r c.square.ensures.radius c.square.ensures.denominator)

pub returns-clause-decided : goal.returns-clause-decided
returns-clause-decided g c = (λ t. (is g c).decided.0 ((decision g c).0 t), λ e. (decision g c).1 ((is g c).decided.1 e))

pub returns-clause-clear : goal.returns-clause-clear
returns-clause-clear g c =
    λ passed. subst₂ (λ w b. EachFunction w (IsClearIn b (slack g.S.Scale.LOW_BITS))) c.move_to_centre.ensures.word c.square.ensures.ball
    ((is g c).clear ((decision g c).0 passed))

pub returns-clause-found : goal.returns-clause-found
returns-clause-found g c =
    λ clear. (decision g c).1
    ((is g c).found (subst₂ (λ w b. EachFunction w (IsClearIn b (slack g.S.Scale.HIGH_BITS))) (sym c.move_to_centre.ensures.word)
    (sym c.square.ensures.ball) clear))

pub returns-clause-corridor : goal.returns-clause-corridor
returns-clause-corridor g c =
    λ passed. clear_gives_corridor_lem c.args.self.now.word c.args.place (slack g.S.Scale.LOW_BITS) (slack_positive g.S.Scale.LOW_BITS)
    (returns-clause-clear g c passed)
