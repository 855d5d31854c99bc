use Rattle.std.proofs.Common.{ap, ◌∙◌, sym, List, take}
use Rattle.std.proofs.lemmas.List.{take_all}
use Rattle.std.specs.List.{fold}
use Rattle.rational_polygon.specs.Outline.{Outline}
use Rattle.svg_pictures.specs.declared.span.Span.{Span}
use Rattle.svg_pictures.specs.Places.{places_in, places_of}
use Rattle.svg_pictures.specs.Widened.{widened}
use Rattle.svg_pictures.proofs.Spans.{nowhere, widened_more, span_is}
use Rattle.svg_pictures.proofs.span.span_of.Goals as goal

pub loop-polygon-preserved : goal.loop-polygon-preserved
loop-polygon-preserved c =
    let polygons = c.args.polygons.now in
    let item = c.polygon-item in
    c.with_polygon-span.ensures
    ∙ ap (λ (s : Span). fold widened s (places_in item.result)) c.loop-polygon.invariant
    ∙ ap (λ (o : Outline). fold widened (fold widened nowhere (places_of (take c.loop-polygon.polygon-index polygons))) (places_in o)) item.is
    ∙ sym (widened_more nowhere polygons c.loop-polygon.polygon-index item.result c.loop-polygon-test.true)

pub returns : goal.returns
returns c =
    let polygons = c.args.polygons.now in
    c.loop-polygon.invariant
    ∙ ap (λ (os : List Outline). fold widened nowhere (places_of os)) (take_all c.loop-polygon.polygon-index polygons c.loop-polygon-test.false)
    ∙ span_is polygons c.requires
