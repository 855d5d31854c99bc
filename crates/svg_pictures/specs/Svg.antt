-- The pieces of text of which pictures are made.
-- Source: Scalable Vector Graphics (SVG) 1.1, W3C recommendation (2011): a view box is the left and the upper edge, the width and the height of what
-- is seen. The second axis points down.
use Rattle.std.specs.Prelude.{List, [], ◌∷◌, ℕ, ℤ, codes}
use Rattle.std.specs.List.{concat}
use Rattle.std.specs.Fmt.{signed_decimal}

-- the first line, with the left and the upper edge, the width and the height of the view box
abbrev pub first_line : ℤ → ℤ → ℤ → ℤ → List ℕ
first_line left top width height =
    concat (codes "<svg xmlns=\"http://www.w3.org/2000/svg\" viewBox=\"" ∷ signed_decimal left ∷ codes " " ∷ signed_decimal top ∷ codes " "
    ∷ signed_decimal width ∷ codes " " ∷ signed_decimal height ∷ codes "\">\n" ∷ [])

abbrev pub last_line : List ℕ
last_line = codes "</svg>\n"
