use Rattle.std.proofs.Common.{◌≡◌, ◌+◌, false, true, length, refl, ◌∙◌}
use Rattle.std.proofs.lemmas.Result.{err_from_is_err_and}
use Rattle.rational_polygon.specs.Outline.{IsPolygon}
use Rattle.covering_file.proofs.CornerForms.{corner_is_form}
use Rattle.covering_file.proofs.HeadFaults.{same_refusal}
use Rattle.covering_file.proofs.NextCorner.{next_fails, last_refused, not_convex}
use Rattle.covering_file.proofs.Pushed.{pushed}
use Rattle.covering_file.proofs.outline.last_corner.Goals as goal

pub take-requires-clause-form : goal.take-requires-clause-form
take-requires-clause-form g c = corner_is_form c.args.grid

pub returns-in_err-corner-clause-fails : goal.returns-in_err-corner-clause-fails
returns-in_err-corner-clause-fails g c =
    let left = g.S.Source.left in
    let grid = c.args.grid in
    let cs = c.args.corners.items in
    let p = err_from_is_err_and c.from_residual.result c.from_residual.ensures.1 in
    rw (p.1, p.2, same_refusal c.in_err-corner.field-0.0)
    (next_fails grid (length cs + 1) cs c.args.lines.now c.take.new.lines (left c.args.src.now) (left c.take.new.src) _ c.in_err-corner.ensures.reads)

pub returns-in-Err-clause-fails : goal.returns-in-Err-clause-fails
returns-in-Err-clause-fails g c =
    let left = g.S.Source.left in
    let grid = c.args.grid in
    let cs = c.args.corners.items in
    let corner = c.in_ok-corner.corner in
    let takes = c.in_ok-corner.ensures.reads in
    let more = pushed cs c.push.new.self.items corner c.push.result c.map_err.result c.in_ok-map_err.field-0 c.push.ensures.items
    c.map_err.ensures.variant c.in_ok-map_err.was in
    let other : ¬ IsPolygon (record { grid = grid; corners = c.push.new.self.items }) = λ polygon. let ok : false
    ≡ true = c.in-Err.ensures.polygon.1 polygon in cc in
    let convex = not_convex grid cs c.push.new.self.items corner more c.requires.grid c.requires.count c.requires.inside takes.says.1 other in
    last_refused grid (length cs + 1) cs corner c.args.lines.now c.take.new.lines (left c.args.src.now) (left c.take.new.src) c.number.result
    (c.number.ensures ∙ takes.taken.number) (record { last = refl; not_convex = convex }) takes c.take.ensures.stops
