-- What a walk over a tree stands for: the boxes that are due, and how its stack has them.
use Rattle.std.specs.Prelude.{◌≡◌, ℕ, ◌<◌, ◌≤◌, List, [], ◌∷◌, ◌++◌, drop, length, ⊤, Some, None, option_to_list}
use Rattle.std.specs.declared.option.Option.{Option}
use Rattle.rational_polygon.specs.Square.{Square}
use Rattle.rational_polygon.specs.declared.TheConstants.{MAX_LEVEL}
use Rattle.covering_file.specs.declared.walk.Level.{Level}
use Rattle.covering_file.specs.DueBoxes.{children}

-- the full depth of a tree, and the boxes that are due
pub record Frontier : Type 0 where
  pub depth : ℕ
  pub due : List Square

-- the children to come of the boxes whose trees are begun, those of the last box first
abbrev pub children_to_come : List Level → List Square
children_to_come [] = []
children_to_come (level ∷ below) = drop level.next (children level.place) ++ children_to_come below

-- Each has a child to come, and as many boxes as its level says may be begun before it.
abbrev pub AreBegun : List Level → Type 0
AreBegun [] = ⊤
AreBegun (level ∷ below) =
    (level.next < 4) × (level.place.level < MAX_LEVEL) × (length below ≤ level.place.level) × AreBegun below

-- the first due box and the begun ones, the last first: where no box is due, none is begun
abbrev pub IsStack : Option Square → List Level → Type 0
IsStack None begun = begun ≡ []
IsStack (Some box) begun = (length begun ≤ box.level) × AreBegun begun

-- the first due box, and then the children to come
abbrev pub due_of : Option Square → List Level → List Square
due_of first begun = option_to_list first ++ children_to_come begun
