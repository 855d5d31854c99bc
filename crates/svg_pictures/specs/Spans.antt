-- What is seen of the picture of a covering: its region, and some more on each side.
use Rattle.std.specs.Prelude.{ℕ, ◌+◌, ◌-◌, ◌*◌, ◌/◌, min, max, pos, ◌-ℤ◌, List, [], ◌∷◌, map, fold}
use Rattle.svg_pictures.specs.declared.place.Place.{Place}
use Rattle.svg_pictures.specs.declared.span.Span.{Span}
use Rattle.svg_pictures.specs.Svg.{first_line}

abbrev pub least : List ℕ → ℕ
least [] = 0
least (n ∷ ns) = fold min n ns

abbrev pub greatest : List ℕ → ℕ
greatest ns = fold max 0 ns

-- the least and the greatest numbers of some places, along both axes
abbrev pub span_of : List Place → Span
span_of ps = record {
  left = least (map (λ p. p.across) ps);
  right = greatest (map (λ p. p.across) ps);
  top = least (map (λ p. p.down) ps);
  bottom = greatest (map (λ p. p.down) ps);
}

-- the greater of the width and the height
abbrev pub extent_of : Span → ℕ
extent_of s = max (s.right - s.left) (s.bottom - s.top)

-- a sixteenth of it, rounded down
abbrev pub margin_of : Span → ℕ
margin_of s = extent_of s / 16

-- a four hundredth of it, rounded down, and at least 1
abbrev pub stroke_of : Span → ℕ
stroke_of s = max 1 (extent_of s / 400)

-- the first line: the span, and the margin on each side of it
abbrev pub view_line : Span → List ℕ
view_line s =
    let m = margin_of s in
    first_line (pos s.left -ℤ pos m) (pos s.top -ℤ pos m) (pos (s.right - s.left + 2 * m)) (pos (s.bottom - s.top + 2 * m))
