-- How spans are computed. No public clause speaks of this.
use Rattle.std.specs.Prelude.{min, max}
use Rattle.svg_pictures.specs.declared.place.Place.{Place}
use Rattle.svg_pictures.specs.declared.span.Span.{Span}

-- a span and one more place
abbrev pub widened : Span → Place → Span
widened s p = record {
  left = min s.left p.across;
  right = max s.right p.across;
  top = min s.top p.down;
  bottom = max s.bottom p.down;
}
