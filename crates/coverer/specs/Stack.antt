-- The boxes that are due, each with the words that are in question on it.
use Rattle.std.specs.Prelude.{◌*◌, ◌≤◌, List, [], ◌∷◌, length, map, ⊤}
use Rattle.rational_polygon.specs.Square.{Square, child}
use Rattle.coverer.specs.declared.stack.Due.{Due}
use Rattle.coverer.specs.declared.word_set.WordSet.{WordSet}

abbrev pub due_at : Square → WordSet → Due
due_at box words = record { place = box; words = words }

-- the children of a box, in the order in which their trees stand
abbrev pub due_children : Square → WordSet → List Due
due_children box words = due_at (child box 0) words ∷ due_at (child box 1) words ∷ due_at (child box 2) words ∷ due_at (child box 3) words ∷ []

-- After a box of level l at most 3·l others are due, three of each level, and so on.
abbrev pub AreFew : List Due → Type 0
AreFew [] = ⊤
AreFew (d ∷ others) = (length others ≤ 3 * d.place.level) × AreFew others

abbrev pub places : List Due → List Square
places due = map (λ d. d.place) due
