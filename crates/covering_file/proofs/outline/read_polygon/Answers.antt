use Rattle.std.proofs.Common.{arith}
use Rattle.std.proofs.lemmas.Result.{err_from_is_err_and}
use Rattle.covering_file.proofs.HeadFaults.{same_refusal}
use Rattle.covering_file.proofs.HeadLines.{polygon_is_form}
use Rattle.covering_file.proofs.HeaderParts.{corner_count, corners_inside, corners_number, corners_fail, polygon_read, polygon_stops, polygon_number-if}
use Rattle.covering_file.specs.HeaderPart.{corners_part}
use Rattle.line_grammar.proofs.Parts.{fails_first}
use Rattle.covering_file.proofs.outline.read_polygon.Goals as goal

pub take-requires-clause-form : goal.take-requires-clause-form
take-requires-clause-form g c = polygon_is_form 3 16 (omega arith)

pub returns-in_err-count-clause-reads : goal.returns-in_err-count-clause-reads
returns-in_err-count-clause-reads g c =
    let left = g.S.Source.left in
    let p = err_from_is_err_and c.from_residual.result c.from_residual.ensures.1 in
    rw (p.1, p.2, same_refusal c.in_err-count.field-0.0)
    (fails_first corner_count (corners_part c.args.grid) c.args.lines.now c.take.new.lines (left c.args.src.now)
    (left c.take.new.src) _ c.requires.reading c.in_err-count.ensures.reads)

pub returns-in_err-corners-clause-reads : goal.returns-in_err-corners-clause-reads
returns-in_err-corners-clause-reads g c =
    let left = g.S.Source.left in
    let p = err_from_is_err_and c.from_residual-in_err-corners.result c.from_residual-in_err-corners.ensures.1 in
    rw (p.1, p.2)
    (corners_fail c.args.grid c.in_ok-count.count c.args.lines.now c.take.new.lines c.read_corners.new.lines
    (left c.args.src.now) (left c.take.new.src) (left c.read_corners.new.src) _ c.in_ok-count.ensures.reads c.in_err-corners.ensures.fails)

pub last_corner-requires-clause-inside : goal.last_corner-requires-clause-inside
last_corner-requires-clause-inside g c =
    corners_inside c.args.grid c.in_ok-count.count c.in_ok-corners.corners.items c.in_ok-corners.ensures.corners.says

pub last_corner-requires-clause-few : goal.last_corner-requires-clause-few
last_corner-requires-clause-few g c =
    let left = g.S.Source.left in
    omega (
      arith,
      c.requires.few,
      c.in_ok-count.ensures.reads.taken.number,
      c.in_ok-count.ensures.reads.says.1,
      c.in_ok-corners.ensures.count,
      corners_number c.args.grid c.in_ok-count.count c.in_ok-corners.corners.items c.take.new.lines c.read_corners.new.lines
          (left c.take.new.src) (left c.read_corners.new.src) c.in_ok-corners.ensures.corners,
    )

pub returns-clause-reads : goal.returns-clause-reads
returns-clause-reads g c =
    let left = g.S.Source.left in
    polygon_read c.args.grid c.in_ok-count.count c.in_ok-corners.corners.items c.last_corner.result c.args.lines.now c.take.new.lines
    c.read_corners.new.lines c.last_corner.new.lines
    (left c.args.src.now) (left c.take.new.src) (left c.read_corners.new.src) (left c.last_corner.new.src)
    c.in_ok-count.ensures.reads c.in_ok-corners.ensures.corners c.in_ok-corners.ensures.count
    c.last_corner.ensures.is_polygon c.last_corner.ensures.corner c.last_corner.ensures.fails

pub returns-clause-few : goal.returns-clause-few
returns-clause-few g c =
    let left = g.S.Source.left in
    polygon_number-if c.args.grid c.last_corner.result c.args.lines.now c.last_corner.new.lines (left c.args.src.now) (left c.last_corner.new.src)
    (polygon_read c.args.grid c.in_ok-count.count c.in_ok-corners.corners.items c.last_corner.result c.args.lines.now c.take.new.lines
    c.read_corners.new.lines c.last_corner.new.lines
    (left c.args.src.now) (left c.take.new.src) (left c.read_corners.new.src) (left c.last_corner.new.src)
    c.in_ok-count.ensures.reads c.in_ok-corners.ensures.corners c.in_ok-corners.ensures.count
    c.last_corner.ensures.is_polygon c.last_corner.ensures.corner c.last_corner.ensures.fails)

pub returns-clause-stops : goal.returns-clause-stops
returns-clause-stops g c =
    let left = g.S.Source.left in
    polygon_stops c.args.grid c.in_ok-count.count c.in_ok-corners.corners.items c.last_corner.result c.args.lines.now c.take.new.lines
    c.read_corners.new.lines c.last_corner.new.lines
    (left c.args.src.now) (left c.take.new.src) (left c.read_corners.new.src) (left c.last_corner.new.src)
    c.in_ok-count.ensures.reads c.in_ok-corners.ensures.corners c.in_ok-corners.ensures.count c.last_corner.ensures.stops
