use Rattle.std.proofs.Common.{None, ◌+◌, ◌<◌, ℕ, List, length, arith, ◌∙◌, sym, subst}
use Rattle.std.proofs.lemmas.Result.{err_from_is_err_and}
use Rattle.line_grammar.specs.Reading.{TakesPart}
use Rattle.covering_file.specs.CornerForms.{CompletesNone}
use Rattle.covering_file.specs.HeaderPart.{corners_so_far}
use Rattle.covering_file.proofs.CornerForms.{corner_is_form}
use Rattle.covering_file.proofs.HeadFaults.{same_refusal}
use Rattle.covering_file.proofs.HeaderParts.{corner_turn_fails, corner_turn_taken}
use Rattle.covering_file.proofs.NextCorner.{next_fails, next_taken}
use Rattle.covering_file.proofs.Pushed.{pushed, length_more}
use Rattle.covering_file.proofs.outline.read_corners.Goals as goal

pub take-requires-clause-form : goal.take-requires-clause-form
take-requires-clause-form g c = corner_is_form c.args.grid

pub take-requires-clause-reading : goal.take-requires-clause-reading
take-requires-clause-reading g c = c.corners.invariant.takes.taken.reading

pub take-requires-clause-few : goal.take-requires-clause-few
take-requires-clause-few g c = omega (arith, c.corners.invariant.number, c.corners.invariant.count, c.requires.few, c.requires.count.1, c.corners-test.true)

pub returns-in_err-corner-clause-fails : goal.returns-in_err-corner-clause-fails
returns-in_err-corner-clause-fails g c =
    let left = g.S.Source.left in
    let grid = c.args.grid in
    let count = c.args.count in
    let cs = c.corners.corners.items in
    let kept = c.corners.invariant in
    let fewer : length cs < count = omega (arith, kept.count, c.corners-test.true) in
    let p = err_from_is_err_and c.from_residual.result c.from_residual.ensures.1 in
    rw (p.1, p.2, same_refusal c.in_err-corner.field-0.0)
    (corner_turn_fails grid count cs c.args.lines.now c.corners.lines c.take.new.lines (left c.args.src.now) (left c.corners.src)
    (left c.take.new.src) _ kept.takes fewer
    (next_fails grid count cs c.corners.lines c.take.new.lines (left c.corners.src) (left c.take.new.src) _ c.in_err-corner.ensures.reads))

pub returns-in_err-map_err-clause-fails : goal.returns-in_err-map_err-clause-fails
returns-in_err-map_err-clause-fails g c =
    let left = g.S.Source.left in
    let grid = c.args.grid in
    let count = c.args.count in
    let cs = c.corners.corners.items in
    let kept = c.corners.invariant in
    let fewer : length cs < count = omega (arith, kept.count, c.corners-test.true) in
    let p = err_from_is_err_and c.from_residual-in_err-map_err.result c.from_residual-in_err-map_err.ensures.1 in
    rw (p.1, p.2)
    (corner_turn_fails grid count cs c.args.lines.now c.corners.lines c.take.new.lines (left c.args.src.now) (left c.corners.src)
    (left c.take.new.src) None kept.takes fewer
    (record { due = tt; reached = tt; stops = c.take.ensures.stops }))

pub corners-preserved : goal.corners-preserved
corners-preserved g c =
    let left = g.S.Source.left in
    let grid = c.args.grid in
    let count = c.args.count in
    let cs = c.corners.corners.items in
    let corner = c.in_ok-corner.corner in
    let kept = c.corners.invariant in
    let fewer : length cs + 1 < count = omega (arith, kept.count, c.corners-test.true) in
    let more = pushed cs c.push.new.self.items corner c.push.result c.map_err.result c.in_ok-map_err.field-0 c.push.ensures.items
    c.map_err.ensures.variant c.in_ok-map_err.was in
    let early : ¬ (CompletesNone grid count cs corner) = λ none. omega (arith, none.last, fewer) in
    let one = next_taken grid count cs corner c.corners.lines c.take.new.lines (left c.corners.src) (left c.take.new.src) early c.in_ok-corner.ensures.reads in
    let takes = corner_turn_taken grid count cs corner c.args.lines.now c.corners.lines c.take.new.lines (left c.args.src.now) (left c.corners.src)
    (left c.take.new.src) kept.takes (omega (arith, fewer)) one in
    record {
      takes = subst (λ (l : List (ℕ × ℕ)). TakesPart (corners_so_far grid count) c.args.lines.now c.take.new.lines (left c.args.src.now)
          (left c.take.new.src) l) (sym more) takes;
      number = omega (arith, kept.number, one.taken.number, length_more cs c.push.new.self.items corner more);
      count = omega (arith, kept.count, length_more cs c.push.new.self.items corner more);
      cause = c.in_ok-corner.ensures.cause ∙ kept.cause;
    }
