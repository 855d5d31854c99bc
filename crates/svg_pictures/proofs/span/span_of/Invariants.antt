use Rattle.std.proofs.Common.{◌≡◌, take}
use Rattle.std.specs.List.{fold}
use Rattle.svg_pictures.specs.Places.{places_of}
use Rattle.svg_pictures.specs.Widened.{widened}
use Rattle.svg_pictures.proofs.Spans.{nowhere}
use Rattle.svg_pictures.proofs.span.span_of.Given as goal

-- the polygons so far are in the span
abbrev pub invariant-loop-polygon : goal.invariant-loop-polygon
invariant-loop-polygon l = l.span ≡ fold widened nowhere (places_of (take l.polygon-index l.polygons))
