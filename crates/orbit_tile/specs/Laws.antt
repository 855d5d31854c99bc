-- What follows from the definitions alone.
use Rattle.std.specs.Prelude.{◌≡◌, ◌⊎◌, ℕ, ◌≤◌, List, length, Contains}
use Rattle.rational_polygon.specs.Point.{Point, IsTriangle}
use Rattle.rational_polygon.specs.Square.{Square, unit_square, IsInBox}
use Rattle.gradient_bounds.specs.Clear.{IsClear, IsShut}
use Rattle.gradient_bounds.specs.Corridor.{HasCorridor}
use Rattle.gradient_bounds.specs.Slacks as slacks
use Rattle.orbit_tile.specs.Causes.{IsInQuestion}
use Rattle.orbit_tile.specs.declared.patch.Patch.{Patch}
use Rattle.orbit_tile.specs.declared.patch.PatchKind.TheVariants.{Inside, Outside, Beyond}
use Rattle.orbit_tile.specs.Tile.{IsTile, IsFull}

-- the word has a corridor at each point of an inside patch
abbrev pub InsideIsOpen : Type 0
InsideIsOpen =
    (w : List ℕ) (depth : ℕ) (patches : List Patch) (patch : Patch) (p : Point) → IsTile w depth patches → Contains patches patch
    → patch.kind ≡ Inside → IsInBox patch.place p → HasCorridor w p.x p.y

-- it has one at no point of an outside patch
abbrev pub OutsideIsNot : Type 0
OutsideIsNot =
    (w : List ℕ) (depth : ℕ) (patches : List Patch) (patch : Patch) (p : Point) → IsTile w depth patches → Contains patches patch
    → patch.kind ≡ Outside → IsInBox patch.place p → ¬ (HasCorridor w p.x p.y)

-- a patch that is beyond has no triangle
abbrev pub BeyondHoldsNone : Type 0
BeyondHoldsNone =
    (w : List ℕ) (depth : ℕ) (patches : List Patch) (patch : Patch) (p : Point) → IsTile w depth patches → Contains patches patch
    → patch.kind ≡ Beyond → IsInBox patch.place p → ¬ (IsTriangle p)

-- each point of the unit square lies in a patch
abbrev pub PatchesCover : Type 0
PatchesCover =
    (w : List ℕ) (depth : ℕ) (patches : List Patch) (p : Point) → IsTile w depth patches → IsInBox unit_square p
    → (patch : Patch) × Contains patches patch × IsInBox patch.place p

-- ---- how much freedom the causes leave

-- on the box the word is clear or shut with the narrower slack, and with the wider one it is neither
pub record IsBetweenSlacks (w : List ℕ) (box : Square) : Type 0 where
  pub seen : IsClear w box slacks.sound.gradient ⊎ IsShut w box slacks.sound.gradient
  pub in_question : IsInQuestion w box

-- two tiles of a word are one, or else some box is between
abbrev pub TilesDifferBetween : Type 0
TilesDifferBetween =
    (w : List ℕ) (depth : ℕ) (patches patches' : List Patch) → IsTile w depth patches → IsTile w depth patches'
    → (patches ≡ patches') ⊎ ((box : Square) × IsBetweenSlacks w box)

-- so many patches are too few for a tile that has no more of them only where some box is between
abbrev pub FullDiffersBetween : Type 0
FullDiffersBetween =
    (w : List ℕ) (depth limit : ℕ) (patches : List Patch) → IsTile w depth patches → length patches ≤ limit → IsFull w depth limit
    → (box : Square) × IsBetweenSlacks w box
