-- The shift of a word: where the last triangle is the first one, moved and not rotated.
-- Source: Richard Evan Schwartz, Obtuse Triangular Billiards I: Near the (2, 3, 6) Triangle, Experimental Mathematics 15 (2006), where a word whose
-- last triangle is a translate for each triangle is called stable.

use Rattle.std.specs.Prelude.{◌≡◌, ◌↔◌, ℕ, ◌%◌, List, length, All}
use Rattle.edge_words.specs.Letters.{IsLetter}
use Rattle.edge_words.specs.Stable.{IsStable}
use Rattle.exp_sums.specs.FormalPoint.{FormalPoint, ◌+ₚ◌}
use Rattle.unfolding.specs.Triangle.{IsCorner, first_corner, corner_of}

-- each corner of the last triangle is the same corner of the first plus v
abbrev pub IsShift : List ℕ → FormalPoint → Type 0
IsShift w v = (c : ℕ) → IsCorner c → corner_of w (length w) c ≡ first_corner c +ₚ v

-- the last triangle is a translate of the first
abbrev pub HasShift : List ℕ → Type 0
HasShift w = (v : FormalPoint) × IsShift w v

-- a word has at most one shift
abbrev pub ShiftsAreUnique : Type 0
ShiftsAreUnique = (w : List ℕ) (u v : FormalPoint) → IsShift w u → IsShift w v → u ≡ v

-- the stable words are those with a shift, for every list of letters of even length
abbrev pub StableWordsHaveShifts : Type 0
StableWordsHaveShifts = (w : List ℕ) → All IsLetter w → length w % 2 ≡ 0 → HasShift w ↔ IsStable w
