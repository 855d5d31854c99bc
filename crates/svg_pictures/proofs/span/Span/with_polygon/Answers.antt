use Rattle.std.proofs.Common.{ap, ◌∙◌, sym, subst, ℕ, List, map, get_or}
use Rattle.std.proofs.lemmas.List.{take_all}
use Rattle.std.proofs.lemmas.List.Elements.{All-get_or}
use Rattle.std.specs.List.{All, fold}
use Rattle.rational_polygon.specs.Outline.{IsInside}
use Rattle.svg_pictures.specs.declared.place.Place.{Place}
use Rattle.svg_pictures.specs.declared.span.Span.{Span}
use Rattle.svg_pictures.specs.Places.{place_of}
use Rattle.svg_pictures.specs.Widened.{widened}
use Rattle.svg_pictures.proofs.Spans.{widened_next}
use Rattle.svg_pictures.proofs.span.Span.with_polygon.Goals as goal

pub place_of-requires-clause-inside : goal.place_of-requires-clause-inside
place_of-requires-clause-inside c =
    let corners = c.corners-corners.result.now in
    let inside = subst (λ (n : ℕ). All (IsInside n) corners) (sym c.grid-grid.ensures.value)
    (subst (λ (cs : List (ℕ × ℕ)). All (IsInside c.args.polygon.now.grid) cs) (sym c.corners-corners.ensures.all) c.grid-grid.ensures.is_polygon.inside) in
    All-get_or (IsInside c.grid-grid.result) corners c.loop-corner.corner-index (0, 0) c.loop-corner-test.true inside

pub loop-corner-preserved : goal.loop-corner-preserved
loop-corner-preserved c =
    let grid = c.grid-grid.result in
    let corners = c.corners-corners.result.now in
    c.with-span.ensures
    ∙ ap (λ (p : Place). widened c.loop-corner.span p) c.place_of.ensures
    ∙ ap (λ (s : Span). widened s (place_of grid (get_or corners c.loop-corner.corner-index (0, 0)))) c.loop-corner.invariant
    ∙ sym (widened_next (place_of grid) c.args.self corners c.loop-corner.corner-index (0, 0) c.loop-corner-test.true)

pub returns : goal.returns
returns c =
    let o = c.args.polygon.now in
    let corners = c.corners-corners.result.now in
    c.loop-corner.invariant
    ∙ ap (λ (cs : List (ℕ × ℕ)). fold widened c.args.self (map (place_of c.grid-grid.result) cs))
    (take_all c.loop-corner.corner-index corners c.loop-corner-test.false ∙ c.corners-corners.ensures.all)
    ∙ ap (λ (n : ℕ). fold widened c.args.self (map (place_of n) o.corners)) c.grid-grid.ensures.value
