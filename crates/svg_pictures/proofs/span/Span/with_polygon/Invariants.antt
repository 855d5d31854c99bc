use Rattle.std.proofs.Common.{◌≡◌, map, take}
use Rattle.std.specs.List.{fold}
use Rattle.svg_pictures.specs.Places.{place_of}
use Rattle.svg_pictures.specs.Widened.{widened}
use Rattle.svg_pictures.proofs.span.Span.with_polygon.Given as goal

-- the places so far are in the span
abbrev pub invariant-loop-corner : goal.invariant-loop-corner
invariant-loop-corner l = l.span ≡ fold widened l.fn.self (map (place_of l.grid) (take l.corner-index l.corners))
