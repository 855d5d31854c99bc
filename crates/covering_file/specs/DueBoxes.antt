-- Which boxes are due after some nodes.
use Rattle.std.specs.Prelude.{◌≡◌, ◌≢◌, ℕ, ◌<◌, ◌⊎◌, List, [], ◌∷◌, ◌++◌, fold, take, length, Some, None}
use Rattle.std.specs.declared.option.Option.{Option}
use Rattle.rational_polygon.specs.Square.{Square, unit_square, child}
use Rattle.covering_file.specs.declared.node.Node.{Node}
use Rattle.covering_file.specs.declared.node.Node.TheVariants.{Split}

-- the four children of a box, in the order in which their trees stand
abbrev pub children : Square → List Square
children box = child box 0 ∷ child box 1 ∷ child box 2 ∷ child box 3 ∷ []

-- A split takes the first due box away and puts its four children in its place. A leaf takes it away.
abbrev pub due_after : List Square → Node → List Square
due_after [] node = []
due_after (box ∷ due) Split = children box ++ due
due_after (box ∷ due) leaf = due

-- before the first node the unit square is due
abbrev pub due_boxes : List Node → List Square
due_boxes nodes = fold due_after (unit_square ∷ []) nodes

-- the first of them
abbrev pub first_of : List Square → Option Square
first_of [] = None
first_of (box ∷ others) = Some box

-- a box is due before each node
abbrev pub AreDue : List Node → Type 0
AreDue nodes = (k : ℕ) → k < length nodes → due_boxes (take k nodes) ≢ []

-- and none after all: the nodes are those of one whole tree
pub record AreWhole (nodes : List Node) : Type 0 where
  pub due : AreDue nodes
  pub none_left : due_boxes nodes ≡ []

-- One of the nodes is this one, and this box was the first that was due before it. Before the first node the boxes `due` are.
abbrev pub StandsIn : List Square → List Node → Square → Node → Type 0
StandsIn due [] box node = ⊥
StandsIn [] (n ∷ nodes) box node = ⊥
StandsIn (first ∷ due) (n ∷ nodes) box node = ((box ≡ first) × (node ≡ n)) ⊎ StandsIn (due_after (first ∷ due) n) nodes box node
