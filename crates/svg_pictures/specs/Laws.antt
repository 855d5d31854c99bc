-- How much freedom the picture of an unfolding leaves, over the definitions alone.
use Rattle.std.specs.Prelude.{◌≡◌, ℕ, ℤ, pos, ◌+ℤ◌, ◌≤ℤ◌, List}
use Rattle.rat_core.specs.Fraction.{ℚ}
use Rattle.svg_pictures.specs.Coordinates.{IsWithinOne}
use Rattle.svg_pictures.specs.UnfoldingPicture.{IsUnfoldingPicture}

-- two whole numbers that stand for one coordinate differ by at most 2
abbrev pub NumbersDifferByTwo : Type 0
NumbersDifferByTwo = (v : ℕ → ℚ) (z z' : ℤ) → IsWithinOne z v → IsWithinOne z' v → z' ≤ℤ (z +ℤ pos 2)

-- two pictures of one word in one triangle are one text, where their triangles have the same numbers
abbrev pub TextFollowsTriangles : Type 0
TextFollowsTriangles =
    (w : List ℕ) (x y : ℚ) (text text' : List ℕ) (p : IsUnfoldingPicture w x y text) (q : IsUnfoldingPicture w x y text')
    → p.triangles ≡ q.triangles → text ≡ text'
