-- The picture of a covering: a square for each leaf of its tree that is not outside, in the colour of its word, and the outlines of its region.
-- One unit is 2^−20 of the square of angles.
use Rattle.std.specs.Prelude.{ℕ, ◌+◌, ◌-◌, ◌*◌, ◌^◌, Bool, true, false, List, [], ◌∷◌, ◌++◌, codes, decimal}
use Rattle.std.specs.List.{concat, flat_map}
use Rattle.rational_polygon.specs.Outline.{Outline}
use Rattle.rational_polygon.specs.Square.{Square, unit_square, child}
use Rattle.covering_file.specs.declared.node.Node.{Node}
use Rattle.covering_file.specs.declared.node.Node.TheVariants.{Shown, Corner, Uncovered}
use Rattle.covering_file.specs.Header.{Heading}
use Rattle.covering_file.specs.Tree.{Tree, leaf, split}
use Rattle.svg_pictures.specs.Colours.{colour_of}
use Rattle.svg_pictures.specs.Places.{place_of, places_of}
use Rattle.svg_pictures.specs.Spans.{span_of, stroke_of, view_line}
use Rattle.svg_pictures.specs.Svg.{last_line}

-- a leaf that is not outside
abbrev pub is_drawn : Node → Bool
is_drawn (Shown i) = true
is_drawn (Corner i) = true
is_drawn Uncovered = true
is_drawn node = false

-- ---- the leaves

-- the side of a box of this level
abbrev pub side_at : ℕ → ℕ
side_at level = 2 ^ (20 - level)

-- The square of a box. The second axis of a picture points down, so its upper edge is that of the box's upper side, upside down.
abbrev pub square_line : Square → List ℕ → List ℕ → List ℕ
square_line box colour more =
    let side = side_at box.level in
    concat (codes "<rect x=\"" ∷ decimal (box.i * side) ∷ codes "\" y=\"" ∷ decimal (2 ^ 20 - (box.j + 1) * side) ∷ codes "\" width=\""
    ∷ decimal side ∷ codes "\" height=\"" ∷ decimal side ∷ codes "\" fill=\"" ∷ colour ∷ codes "\"" ∷ more ∷ codes "/>\n" ∷ [])

-- what a node adds at its box: a leaf that is judged at its corners lets what lies behind it shine through
abbrev pub node_text : Square → Node → List ℕ
node_text box (Shown i) = square_line box (colour_of i) []
node_text box (Corner i) = square_line box (colour_of i) (codes " fill-opacity=\"0.75\"")
node_text box Uncovered = square_line box (codes "black") []
node_text box node = []

-- the leaves of a tree over a box, in preorder
abbrev pub drawn : Square → Tree → List ℕ
drawn box (leaf node is) = node_text box node
drawn box (split a b c d) = drawn (child box 0) a ++ drawn (child box 1) b ++ drawn (child box 2) c ++ drawn (child box 3) d

-- ---- the outlines

abbrev pub corner_text : ℕ → ℕ × ℕ → List ℕ
corner_text grid c =
    let p = place_of grid c in
    concat (decimal p.across ∷ codes "," ∷ decimal p.down ∷ [])

-- with a space between two
abbrev pub corners_text : ℕ → List (ℕ × ℕ) → List ℕ
corners_text grid [] = []
corners_text grid (c ∷ cs) = corner_text grid c ++ flat_map (λ d. codes " " ++ corner_text grid d) cs

-- behind the corners of a polygon, whose outline is so wide
abbrev pub outline_end : ℕ → List ℕ
outline_end width = concat (codes "\" fill=\"none\" stroke=\"black\" stroke-width=\"" ∷ decimal width ∷ codes "\"/>\n" ∷ [])

abbrev pub outline_line : ℕ → Outline → List ℕ
outline_line width outline = codes "<polygon points=\"" ++ (corners_text outline.grid outline.corners ++ outline_end width)

-- ---- the whole

abbrev pub covering_picture : Heading → Tree → List ℕ
covering_picture h t =
    let span = span_of (places_of h.region) in
    view_line span ++ (drawn unit_square t ++ (flat_map (outline_line (stroke_of span)) h.region ++ last_line))
