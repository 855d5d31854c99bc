use Rattle.std.proofs.Common.{◌≡◌, List, arith, subst, sym}
use Rattle.std.proofs.lemmas.Result.{err_from_is_err_and, IfOk-at_ok}
use Rattle.rational_polygon.specs.declared.TheConstants.{MAX_GRID}
use Rattle.rational_polygon.specs.Outline.{Outline}
use Rattle.line_grammar.specs.Reading.{TakesPart}
use Rattle.covering_file.specs.HeaderPart.{region_part}
use Rattle.covering_file.proofs.HeadFaults.{same_refusal}
use Rattle.covering_file.proofs.HeadLines.{grid_is_form}
use Rattle.covering_file.proofs.HeaderParts.{grid_fails, count_fails, polygons_fail, makes_region, region_taken}
use Rattle.covering_file.proofs.region.read_region.Goals as goal

pub take-requires-clause-form : goal.take-requires-clause-form
take-requires-clause-form g c = grid_is_form 1 MAX_GRID (omega arith)

pub returns-in_err-grid-clause-reads : goal.returns-in_err-grid-clause-reads
returns-in_err-grid-clause-reads g c =
    let left = g.S.Source.left in
    let p = err_from_is_err_and c.from_residual.result c.from_residual.ensures.1 in
    rw (p.1, p.2, same_refusal c.in_err-grid.field-0.0)
    (grid_fails c.args.version c.args.lines.now c.take.new.lines (left c.args.src.now) (left c.take.new.src) _ c.requires.reading c.in_err-grid.ensures.reads)

pub returns-in_err-count-clause-reads : goal.returns-in_err-count-clause-reads
returns-in_err-count-clause-reads g c =
    let left = g.S.Source.left in
    let p = err_from_is_err_and c.from_residual-in_err-count.result c.from_residual-in_err-count.ensures.1 in
    rw (p.1, p.2)
    (count_fails c.args.version c.in_ok-grid.grid c.args.lines.now c.take.new.lines c.read_count.new.lines (left c.args.src.now) (left c.take.new.src)
    (left c.read_count.new.src) _ c.in_ok-grid.ensures.reads.taken.reading c.in_ok-grid.ensures.reads c.in_err-count.ensures.reads)

pub returns-in_err-polygons-clause-reads : goal.returns-in_err-polygons-clause-reads
returns-in_err-polygons-clause-reads g c =
    let left = g.S.Source.left in
    let p = err_from_is_err_and c.from_residual-in_err-polygons.result c.from_residual-in_err-polygons.ensures.1 in
    rw (p.1, p.2)
    (polygons_fail c.args.version c.in_ok-grid.grid c.in_ok-count.count c.args.lines.now c.take.new.lines c.read_count.new.lines c.read_polygons.new.lines
    (left c.args.src.now) (left c.take.new.src) (left c.read_count.new.src) (left c.read_polygons.new.src) _
    c.in_ok-grid.ensures.reads c.in_ok-count.ensures.reads c.in_err-polygons.ensures.fails)

pub unwrap-requires : goal.unwrap-requires
unwrap-requires g c =
    c.new.ensures.region.1 (makes_region c.args.version c.in_ok-grid.grid c.in_ok-count.count c.in_ok-polygons.polygons.items c.requires.version
    c.in_ok-count.ensures.reads.says c.in_ok-polygons.ensures.polygons.says).0.1

pub returns-clause-reads : goal.returns-clause-reads
returns-clause-reads g c =
    let left = g.S.Source.left in
    let ps = c.in_ok-polygons.polygons.items in
    let kept : c.unwrap.result ≡ ps = IfOk-at_ok (λ (r : List Outline). r ≡ ps) c.unwrap.ensures c.new.ensures.kept in
    subst (λ (r : List Outline). TakesPart (region_part c.args.version) c.args.lines.now c.read_polygons.new.lines (left c.args.src.now)
    (left c.read_polygons.new.src) r) (sym kept)
    (region_taken c.args.version c.in_ok-grid.grid c.in_ok-count.count ps c.args.lines.now c.take.new.lines c.read_count.new.lines
    c.read_polygons.new.lines (left c.args.src.now) (left c.take.new.src) (left c.read_count.new.src) (left c.read_polygons.new.src)
    c.requires.version c.in_ok-grid.ensures.reads c.in_ok-count.ensures.reads c.in_ok-polygons.ensures.polygons)
