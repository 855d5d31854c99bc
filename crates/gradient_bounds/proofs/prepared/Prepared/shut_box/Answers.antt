use Rattle.std.proofs.Common.{◌↔◌, subst, sym, ap, subst₂, ◌∙◌}
use Rattle.std.specs.Prelude.{IsTrue}
use Rattle.rational_polygon.specs.Point.{Point}
use Rattle.gradient_bounds.specs.Corridor.{SomeFunction}
use Rattle.gradient_bounds.specs.Clear.{slack}
use Rattle.gradient_bounds.specs.Decision.{needed_by, SomeFallsBelow}
use Rattle.gradient_bounds.specs.Neighbourhood.{Ball, IsShutIn}
use Rattle.gradient_bounds.specs.Table.{centre_of, box_drift}
use Rattle.gradient_bounds.proofs.Boxes.{some_of_shut, shut_of_some, shut_gives_no_corridor_lem}
use Rattle.gradient_bounds.proofs.Margins.{slack_positive}
use Rattle.gradient_bounds.proofs.Tested.{box_drift_is}
use Rattle.gradient_bounds.proofs.Tests.{IsSomeTest, numbers_up, numbers_low, some_test}
use Rattle.gradient_bounds.proofs.Numbers.{IsScale, needed}
use Rattle.gradient_bounds.proofs.prepared.Prepared.shut_box.Given as given
use Rattle.gradient_bounds.proofs.prepared.Prepared.shut_box.Goals as goal

scale : (g : given.Over) → IsScale g.S.Scale.BITS g.S.Scale.LOW_BITS g.S.Scale.HIGH_BITS g.S.Scale.PI_LO g.S.Scale.PI_HI
scale g = record { one_unit = g.S.Scale.one_unit; pi = g.S.Scale.pi_between; apart = g.S.Scale.slacks.0; room = g.S.Scale.slacks.1 }

pub some_falls_below-requires-clause-uppers : goal.some_falls_below-requires-clause-uppers
some_falls_below-requires-clause-uppers g c =
    let i = c.self.inside in
    numbers_up g.S.Scale.BITS i.word i.functions i.point i.table.items i.uppers.items i.lowers.items c.deref.result.now
    c.deref-2.result.now c.self.invariant c.deref.ensures.value c.deref-2.ensures.value

pub some_falls_below-requires-clause-lowers : goal.some_falls_below-requires-clause-lowers
some_falls_below-requires-clause-lowers g c =
    let i = c.self.inside in
    numbers_low g.S.Scale.BITS i.word i.functions i.point i.table.items i.uppers.items i.lowers.items c.deref.result.now
    c.deref-2.result.now c.self.invariant c.deref.ensures.value c.deref-2.ensures.value

-- what was decided, by what functions need in the neighbourhood
decision : (g : given.Over) (c : goal.After-some_falls_below g)
    → IsTrue c.some_falls_below.result ↔ SomeFallsBelow (needed g.S.Scale.BITS g.S.Scale.LOW_BITS g.S.Scale.PI_HI c.square.result) c.self.inside.functions c.deref.result.now
    c.deref-2.result.now
decision g c =
    subst (λ t. IsTrue c.some_falls_below.result ↔ SomeFallsBelow (needed_by t) c.self.inside.functions c.deref.result.now c.deref-2.result.now)
    c.drift_threshold.ensures.is c.some_falls_below.ensures

is : (g : given.Over) (c : goal.After-some_falls_below g)
    → IsSomeTest g.S.Scale.BITS g.S.Scale.LOW_BITS g.S.Scale.HIGH_BITS g.S.Scale.PI_HI c.self.inside.functions c.deref.result.now
    c.deref-2.result.now c.square.result (box_drift g.S.Scale.PI_HI c.args.place) c.move_to_centre.new.self
is g c =
    let i = c.self.inside in
    let r = c.square.result in
    let near = c.square.ensures.neighbourhood in
    some_test g.S.Scale.BITS i.word i.functions i.point i.table.items i.uppers.items i.lowers.items c.deref.result.now
    c.deref-2.result.now c.self.invariant c.deref.ensures.value c.deref-2.ensures.value g.S.Scale.LOW_BITS g.S.Scale.HIGH_BITS
    g.S.Scale.PI_LO g.S.Scale.PI_HI (scale g) c.move_to_centre.new.self
    c.self.view_is (centre_of c.args.place).0 (centre_of c.args.place).1 c.move_to_centre.ensures.point r near (ap (λ
    (b : Ball). b.x) c.square.ensures.ball ∙ sym (ap (λ (q : Point). q.x) c.move_to_centre.ensures.centre))
    (ap (λ (b : Ball). b.y) c.square.ensures.ball ∙ sym (ap (λ (q : Point). q.y) c.move_to_centre.ensures.centre))
    (box_drift g.S.Scale.PI_HI c.args.place) (box_drift_is g.S.Scale.PI_HI c.args.place r c.square.ensures.radius c.square.ensures.denominator)

pub returns-clause-decided : goal.returns-clause-decided
returns-clause-decided g c = (λ t. (is g c).decided.0 ((decision g c).0 t), λ e. (decision g c).1 ((is g c).decided.1 e))

pub returns-clause-shut : goal.returns-clause-shut
returns-clause-shut g c =
    λ passed. shut_of_some c.args.self.now.word c.args.place (slack g.S.Scale.LOW_BITS)
    (subst₂ (λ w b. SomeFunction w (IsShutIn b (slack g.S.Scale.LOW_BITS))) c.move_to_centre.ensures.word c.square.ensures.ball
    ((is g c).shut ((decision g c).0 passed)))

pub returns-clause-found : goal.returns-clause-found
returns-clause-found g c =
    λ shut. (decision g c).1
    ((is g c).found (subst₂ (λ w b. SomeFunction w (IsShutIn b (slack g.S.Scale.HIGH_BITS))) (sym c.move_to_centre.ensures.word) (sym c.square.ensures.ball)
    (some_of_shut c.args.self.now.word c.args.place (slack g.S.Scale.HIGH_BITS) shut)))

pub returns-clause-no_corridor : goal.returns-clause-no_corridor
returns-clause-no_corridor g c =
    λ passed. shut_gives_no_corridor_lem c.args.self.now.word c.args.place (slack g.S.Scale.LOW_BITS) (slack_positive g.S.Scale.LOW_BITS)
    (returns-clause-shut g c passed)
