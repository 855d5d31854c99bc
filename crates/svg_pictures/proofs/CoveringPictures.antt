-- The parts of which the picture of a covering is made.
use Rattle.std.proofs.Common.{◌≡◌, ap, ◌∙◌, ℕ, List, ◌++◌}
use Rattle.std.specs.List.{flat_map}
use Rattle.rational_polygon.specs.Outline.{Outline}
use Rattle.rational_polygon.specs.Square.{unit_square}
use Rattle.covering_file.specs.Header.{Heading}
use Rattle.covering_file.specs.Tree.{Tree}
use Rattle.svg_pictures.specs.declared.span.Span.{Span}
use Rattle.svg_pictures.specs.CoveringPicture.{drawn, outline_line, covering_picture}
use Rattle.svg_pictures.specs.Places.{places_of}
use Rattle.svg_pictures.specs.Spans.{span_of, stroke_of, view_line}
use Rattle.svg_pictures.specs.Svg.{last_line}

-- the outlines, and the last line
abbrev pub behind_leaves : Span → List Outline → List ℕ
behind_leaves s region = flat_map (outline_line (stroke_of s)) region ++ last_line

abbrev pub behind_view : Span → List Outline → Tree → List ℕ
behind_view s region t = drawn unit_square t ++ behind_leaves s region

pub picture_is : (h : Heading) (t : Tree) (s : Span) (region : List Outline) → s ≡ span_of (places_of region) → region ≡ h.region
    → view_line s ++ behind_view s region t ≡ covering_picture h t
picture_is h t s region span_is same =
    ap (λ (r : Span). view_line r ++ behind_view r region t) span_is
    ∙ ap (λ (os : List Outline). let r = span_of (places_of os) in view_line r ++ behind_view r os t) same
