use Rattle.std.proofs.Common.{None, ◌<◌, List, length, arith, ◌∙◌, sym, subst}
use Rattle.std.proofs.lemmas.Result.{err_from_is_err_and}
use Rattle.rational_polygon.specs.Outline.{Outline}
use Rattle.line_grammar.specs.Reading.{TakesPart}
use Rattle.covering_file.proofs.HeaderParts.{polygon_turn_fails, polygon_turn_taken, polygons_so_far}
use Rattle.covering_file.proofs.Pushed.{pushed, length_more}
use Rattle.covering_file.proofs.region.read_polygons.Goals as goal

pub read_polygon-requires-clause-reading : goal.read_polygon-requires-clause-reading
read_polygon-requires-clause-reading g c = c.polygons.invariant.takes.taken.reading

pub read_polygon-requires-clause-few : goal.read_polygon-requires-clause-few
read_polygon-requires-clause-few g c =
    omega (arith, c.polygons.invariant.number, c.polygons.invariant.count, c.requires.few, c.requires.count, c.polygons-test.true)

pub returns-in_err-polygon-clause-fails : goal.returns-in_err-polygon-clause-fails
returns-in_err-polygon-clause-fails g c =
    let left = g.S.Source.left in
    let count = c.args.count in
    let ps = c.polygons.polygons.items in
    let kept = c.polygons.invariant in
    let fewer : length ps < count = omega (arith, kept.count, c.polygons-test.true) in
    let p = err_from_is_err_and c.from_residual.result c.from_residual.ensures.1 in
    rw (p.1, p.2)
    (polygon_turn_fails c.args.grid count ps c.args.lines.now c.polygons.lines c.read_polygon.new.lines (left c.args.src.now) (left c.polygons.src)
    (left c.read_polygon.new.src) _ kept.takes fewer c.in_err-polygon.ensures.reads)

pub returns-in_err-map_err-clause-fails : goal.returns-in_err-map_err-clause-fails
returns-in_err-map_err-clause-fails g c =
    let left = g.S.Source.left in
    let count = c.args.count in
    let ps = c.polygons.polygons.items in
    let kept = c.polygons.invariant in
    let fewer : length ps < count = omega (arith, kept.count, c.polygons-test.true) in
    let p = err_from_is_err_and c.from_residual-in_err-map_err.result c.from_residual-in_err-map_err.ensures.1 in
    rw (p.1, p.2)
    (polygon_turn_fails c.args.grid count ps c.args.lines.now c.polygons.lines c.read_polygon.new.lines (left c.args.src.now) (left c.polygons.src)
    (left c.read_polygon.new.src) None kept.takes fewer c.in_ok-polygon.ensures.stops)

pub polygons-preserved : goal.polygons-preserved
polygons-preserved g c =
    let left = g.S.Source.left in
    let count = c.args.count in
    let grid = c.args.grid in
    let ps = c.polygons.polygons.items in
    let polygon = c.in_ok-polygon.polygon in
    let kept = c.polygons.invariant in
    let fewer : length ps < count = omega (arith, kept.count, c.polygons-test.true) in
    let more = pushed ps c.push.new.self.items polygon c.push.result c.map_err.result c.in_ok-map_err.field-0 c.push.ensures.items
    c.map_err.ensures.variant c.in_ok-map_err.was in
    let one = c.in_ok-polygon.ensures.reads in
    let takes = polygon_turn_taken grid count ps polygon c.args.lines.now c.polygons.lines c.read_polygon.new.lines (left c.args.src.now) (left c.polygons.src)
    (left c.read_polygon.new.src) kept.takes fewer one in
    record {
      takes = subst (λ (l : List Outline). TakesPart (polygons_so_far grid count) c.args.lines.now c.read_polygon.new.lines (left c.args.src.now)
          (left c.read_polygon.new.src) l) (sym more) takes;
      number = omega (arith, kept.number, c.in_ok-polygon.ensures.few, length_more ps c.push.new.self.items polygon more);
      count = omega (arith, kept.count, length_more ps c.push.new.self.items polygon more);
      cause = c.in_ok-polygon.ensures.cause ∙ kept.cause;
    }
