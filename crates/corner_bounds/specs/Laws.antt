-- What follows from the definitions alone.

use Rattle.std.specs.Prelude.{ℕ, ◌^◌, List, pos}
use Rattle.rat_core.specs.Fraction.{ℚ, ◌÷◌, whole, ◌≤ℚ◌, ◌<ℚ◌}
use Rattle.edge_words.specs.Word.{IsWord}
use Rattle.rational_polygon.specs.Point.{Point}
use Rattle.rational_polygon.specs.Square.{Square, IsInBox}
use Rattle.gradient_bounds.specs.Clear.{IsShut}
use Rattle.gradient_bounds.specs.Corridor.{HasCorridor}
use Rattle.gradient_bounds.specs.CornerClear.{IsCornerClear}

-- a word that is clear at the corners of a box, with a slack of at least 2^−49, has a corridor at every point of the box
abbrev pub CornerGivesCorridor : Type 0
CornerGivesCorridor =
    (w : List ℕ) (box : Square) (e : ℚ) → IsWord w → pos 1 ÷ 2 ^ 49 ≤ℚ e → IsCornerClear w box e → (p : Point) → IsInBox box p → HasCorridor w p.x p.y

-- what is clear at the corners with a slack is clear there with each lesser one
abbrev pub CornerClearWithLess : Type 0
CornerClearWithLess = (w : List ℕ) (box : Square) (e d : ℚ) → d ≤ℚ e → IsCornerClear w box e → IsCornerClear w box d

-- a word that is shut on a box is not clear at its corners, with a slack of at least 2^−49
abbrev pub ShutIsNotCornerClear : Type 0
ShutIsNotCornerClear =
    (w : List ℕ) (box : Square) (e d : ℚ) → IsWord w → whole 0 <ℚ e → pos 1 ÷ 2 ^ 49 ≤ℚ d → IsShut w box e → ¬ (IsCornerClear w box d)
