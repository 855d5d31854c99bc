-- By which cause a node stands at a box: the first that applies. All are this program's own.
use Rattle.std.specs.Prelude.{◌≡◌, ◌<◌, List, [], ◌∷◌}
use Rattle.rational_polygon.specs.Square.{Square, unit_square}
use Rattle.rational_polygon.specs.Region.{IsApartFromRegion}
use Rattle.gradient_bounds.specs.Slacks as slacks
use Rattle.covering_file.specs.declared.node.Node.{Node}
use Rattle.covering_file.specs.declared.node.Node.TheVariants.{Split, Outside, Shown, Corner, Uncovered}
use Rattle.covering_file.specs.DueBoxes.{StandsIn}
use Rattle.covering_file.specs.Header.{Heading}
use Rattle.covering_claims.specs.Claims.{NoneIsClear, IsFirstClear, NoneIsCornerClear, IsFirstCornerClear}

-- The box is not apart, and no word is clear on it.
pub record IsInQuestion (h : Heading) (box : Square) : Type 0 where
  pub not_apart : ¬ (IsApartFromRegion box h.region)
  pub none_clear : NoneIsClear h.words slacks.findable.gradient box

-- In version 3 no word is clear at its corners either.
pub record IsOpen (h : Heading) (box : Square) : Type 0 where
  pub in_question : IsInQuestion h box
  pub none_at_corners : h.version ≡ 3 → NoneIsCornerClear h.words slacks.findable.corner box

-- An outside box is apart. Any other is not: it is shown for the first word that is clear; or, where none is, in version 3 for the first that is clear
-- at the corners; or, where none is, it is split above the full depth, and left uncovered at it.
abbrev pub HasCause : Heading → Square → Node → Type 0
HasCause h box Outside = IsApartFromRegion box h.region
HasCause h box (Shown i) = (¬ (IsApartFromRegion box h.region)) × IsFirstClear h.words slacks.sure.gradient slacks.findable.gradient box i
HasCause h box (Corner i) =
    (h.version ≡ 3) × IsInQuestion h box × IsFirstCornerClear h.words slacks.sure.corner slacks.findable.corner box i
HasCause h box Split = IsOpen h box × (box.level < h.depth)
HasCause h box Uncovered = IsOpen h box × (box.level ≡ h.depth)

-- each node stands by its cause at the first box that was due before it
abbrev pub StandByCause : Heading → List Node → Type 0
StandByCause h nodes = (box : Square) (node : Node) → StandsIn (unit_square ∷ []) nodes box node → HasCause h box node
