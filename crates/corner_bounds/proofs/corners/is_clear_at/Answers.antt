use Rattle.std.proofs.Common.{◌≤◌, subst, ap, arith}
use Rattle.rational_polygon.specs.Square.{Square}
use Rattle.corner_bounds.specs.Sag.{IsSagThreshold}
use Rattle.corner_bounds.proofs.Tested.{coordinate_between, IsReady, IsAtCorner, shift_there, above_clear, clear_above}
use Rattle.corner_bounds.proofs.corners.is_clear_at.Given as given
use Rattle.corner_bounds.proofs.corners.is_clear_at.Goals as goal

pub fill-requires-clause-x_least : goal.fill-requires-clause-x_least
fill-requires-clause-x_least g c =
    (coordinate_between c.corner-x.result.0 c.args.place.i c.args.a c.args.place.level c.corner-x.ensures.is_box.column c.requires.a c.corner-x.ensures.x).0

pub fill-requires-clause-x_most : goal.fill-requires-clause-x_most
fill-requires-clause-x_most g c =
    (coordinate_between c.corner-x.result.0 c.args.place.i c.args.a c.args.place.level c.corner-x.ensures.is_box.column c.requires.a c.corner-x.ensures.x).1

pub fill-requires-clause-y_least : goal.fill-requires-clause-y_least
fill-requires-clause-y_least g c =
    (coordinate_between c.corner-x.result.1 c.args.place.j c.args.b c.args.place.level c.corner-x.ensures.is_box.row c.requires.b c.corner-x.ensures.y).0

pub fill-requires-clause-y_most : goal.fill-requires-clause-y_most
fill-requires-clause-y_most g c =
    (coordinate_between c.corner-x.result.1 c.args.place.j c.args.b c.args.place.level c.corner-x.ensures.is_box.row c.requires.b c.corner-x.ensures.y).1

ready : (g : given.Over) (c : goal.After-each_reaches g)
    → IsReady g.S.Scale.BITS c.args.low g.S.Scale.PI_LO g.S.Scale.PI_HI c.args.place c.sag_threshold.result c.fill.new.self.word
ready g c = record {
  one_unit = g.S.Scale.one_unit;
  pi = g.S.Scale.pi_between;
  room = c.requires.room;
  deep = c.requires.level;
  word = c.each_reaches.ensures.word;
  is_sag = subst (λ n. IsSagThreshold g.S.Scale.BITS g.S.Scale.PI_HI n c.args.low c.sag_threshold.result) (ap (λ (s : Square). s.level) c.place.view_is)
      c.sag_threshold.ensures.sag;
}

at : (g : given.Over) (c : goal.After-each_reaches g)
    → IsAtCorner g.S.Scale.BITS c.args.place c.args.a c.args.b c.args.p.now.word c.corner-x.result.0 c.corner-x.result.1 c.fill.new.self
at g c = record {
  same = c.fill.ensures.word;
  point = c.fill.ensures.point;
  corner = c.corner-x.ensures.is_corner;
  within = c.each_reaches.ensures.holds;
}

pub returns-clause-shift : goal.returns-clause-shift
returns-clause-shift g c =
    shift_there g.S.Scale.BITS c.args.low g.S.Scale.PI_LO g.S.Scale.PI_HI c.args.place c.args.a c.args.b c.sag_threshold.result c.args.p.now.word
    c.corner-x.result.0 c.corner-x.result.1 c.fill.new.self (ready g c) (at g c)

pub returns-clause-clear : goal.returns-clause-clear
returns-clause-clear g c = λ h.
    above_clear g.S.Scale.BITS c.args.low g.S.Scale.PI_LO g.S.Scale.PI_HI c.args.place c.args.a c.args.b c.sag_threshold.result c.args.p.now.word
    c.corner-x.result.0 c.corner-x.result.1 c.fill.new.self (ready g c) (at g c) (c.each_reaches.ensures.decided.0 h)

pub returns-clause-found : goal.returns-clause-found
returns-clause-found g c = λ each.
    let some : 4 ≤ c.args.low = omega (arith, c.requires.low) in
    c.each_reaches.ensures.decided.1
    (clear_above g.S.Scale.BITS c.args.low g.S.Scale.PI_LO g.S.Scale.PI_HI c.args.place c.args.a c.args.b c.sag_threshold.result c.args.p.now.word
    c.corner-x.result.0 c.corner-x.result.1 c.fill.new.self (ready g c) (at g c) some each)
