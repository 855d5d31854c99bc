-- The boxes that are due, the first one first.
use Rattle.std.specs.Prelude.{◌*◌, ◌≤◌, List, [], ◌∷◌, length, ⊤}
use Rattle.rational_polygon.specs.Square.{Square, child}

-- the four children of a box, in the order in which their trees stand
abbrev pub children : Square → List Square
children box = child box 0 ∷ child box 1 ∷ child box 2 ∷ child box 3 ∷ []

-- After a box of level l at most 3·l others are due, three of each level, and so on.
abbrev pub AreFew : List Square → Type 0
AreFew [] = ⊤
AreFew (box ∷ others) = (length others ≤ 3 * box.level) × AreFew others
