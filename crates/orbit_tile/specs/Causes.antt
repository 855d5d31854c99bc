-- By which cause a patch is of its kind, and a box is divided. The slacks, and what is done between them, are this program's own.
use Rattle.std.specs.Prelude.{◌≡◌, ℕ, ◌+◌, ◌^◌, ◌<◌, ◌≤◌, List}
use Rattle.rational_polygon.specs.Square.{Square}
use Rattle.gradient_bounds.specs.Clear.{IsClear, IsShut}
use Rattle.gradient_bounds.specs.Slacks as slacks
use Rattle.orbit_tile.specs.declared.patch.PatchKind.{PatchKind}
use Rattle.orbit_tile.specs.declared.patch.PatchKind.TheVariants.{Inside, Outside, Undecided, Beyond}

-- The lower left corner lies on or beyond the line x + y = 1, so that the box has no triangle.
abbrev pub IsBeyond : Square → Type 0
IsBeyond box = 2 ^ box.level ≤ box.i + box.j

-- The box may have triangles, and with the wider slack the word is neither clear nor shut on it.
pub record IsInQuestion (w : List ℕ) (box : Square) : Type 0 where
  pub within : ¬ (IsBeyond box)
  pub not_clear : ¬ (IsClear w box slacks.sure.gradient)
  pub not_shut : ¬ (IsShut w box slacks.sure.gradient)

-- A box is beyond exactly where it has no triangle. Any other is inside only where the word is clear with the narrower slack, and outside only where it
-- is shut with it. It is undecided only at the full depth, where it is in question.
abbrev pub HasCause : List ℕ → ℕ → Square → PatchKind → Type 0
HasCause w depth box Beyond = IsBeyond box
HasCause w depth box Inside = (¬ (IsBeyond box)) × IsClear w box slacks.sound.gradient
HasCause w depth box Outside = (¬ (IsBeyond box)) × IsShut w box slacks.sound.gradient
HasCause w depth box Undecided = (box.level ≡ depth) × IsInQuestion w box

-- above the full depth a box is divided only where it is in question
abbrev pub IsDivided : List ℕ → ℕ → Square → Type 0
IsDivided w depth box = (box.level < depth) × IsInQuestion w box
