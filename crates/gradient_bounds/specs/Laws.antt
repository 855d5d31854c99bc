-- What follows from the definitions alone.

use Rattle.std.specs.Prelude.{ℕ, ◌<◌, List}
use Rattle.rat_core.specs.Fraction.{ℚ, whole, ◌≤ℚ◌, ◌<ℚ◌}
use Rattle.rational_polygon.specs.Point.{Point}
use Rattle.rational_polygon.specs.Square.{Square, child, IsInBox}
use Rattle.gradient_bounds.specs.Corridor.{HasCorridor}
use Rattle.gradient_bounds.specs.Clear.{IsClearAtPoint, IsClear, IsShut}

-- a word that is clear at a triangle, with some slack above 0, has a corridor there
abbrev pub ClearAtPointGivesCorridor : Type 0
ClearAtPointGivesCorridor = (w : List ℕ) (x y e : ℚ) → whole 0 <ℚ e → IsClearAtPoint w x y e → HasCorridor w x y

-- a word that is clear on a box, with some slack above 0, has a corridor at every point of the box
abbrev pub ClearGivesCorridor : Type 0
ClearGivesCorridor = (w : List ℕ) (box : Square) (e : ℚ) → whole 0 <ℚ e → IsClear w box e → (p : Point) → IsInBox box p → HasCorridor w p.x p.y

-- a word that is shut on a box, with some slack above 0, has a corridor at no point of it
abbrev pub ShutGivesNoCorridor : Type 0
ShutGivesNoCorridor = (w : List ℕ) (box : Square) (e : ℚ) → whole 0 <ℚ e → IsShut w box e → (p : Point) → IsInBox box p → ¬ (HasCorridor w p.x p.y)

-- a word that is shut on a box is shut on each box within it, with the same slack
abbrev pub ShutGoesDown : Type 0
ShutGoesDown =
    (w : List ℕ) (outer inner : Square) (e : ℚ) → ((p : Point) → IsInBox inner p → IsInBox outer p) → IsShut w outer e → IsShut w inner e

-- so on each child
abbrev pub ShutGoesToChildren : Type 0
ShutGoesToChildren = (w : List ℕ) (box : Square) (c : ℕ) (e : ℚ) → c < 4 → IsShut w box e → IsShut w (child box c) e

-- a word that is shut on a box with some slack above 0 is clear on it with none
abbrev pub ShutIsNotClear : Type 0
ShutIsNotClear = (w : List ℕ) (box : Square) (e d : ℚ) → whole 0 <ℚ e → whole 0 <ℚ d → IsShut w box e → ¬ (IsClear w box d)

-- what is clear with a slack is clear with each lesser one
abbrev pub ClearWithLess : Type 0
ClearWithLess = (w : List ℕ) (box : Square) (e d : ℚ) → d ≤ℚ e → IsClear w box e → IsClear w box d
