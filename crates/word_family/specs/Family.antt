-- Families of words: a part b that is written as often as one likes, between a part a and a part c.
-- Infinite families of words have been found where no finite list of words covers the triangles near a point.
-- Source: W. Patrick Hooper and Richard Evan Schwartz, Billiards in nearly isosceles triangles, Journal of Modern Dynamics 3 (2009).
-- The form a bⁿ c and the bounds on the parts are this program's own.

use Rattle.std.specs.Prelude.{◌≡◌, ℕ, zero, suc, ◌+◌, ◌%◌, ◌<◌, ◌≤◌, List, [], ◌++◌, length, All}
use Rattle.edge_words.specs.Letters.{IsLetter}
use Rattle.edge_words.specs.Stable.{IsStable}
use Rattle.edge_words.specs.Word.{NeighboursDiffer}
use Rattle.exp_sums.specs.FormalPoint.{FormalPoint, whole_point, ◌+ₚ◌, ◌*ₚ◌}
use Rattle.unfolding.specs.Shift.{IsShift}
use Rattle.word_family.specs.declared.TheConstants.{MAX_PART}

-- the parts a, b and c
pub record Parts : Type 0 where
  pub first : List ℕ
  pub middle : List ℕ
  pub last : List ℕ

-- b, written n times
abbrev pub times_written : ℕ → List ℕ → List ℕ
times_written zero b = []
times_written (suc n) b = b ++ times_written n b

-- the list a bⁿ c
abbrev pub member : Parts → ℕ → List ℕ
member f n = f.first ++ (times_written n f.middle ++ f.last)

-- letters, as many as a part may have
pub record IsPart (w : List ℕ) : Type 0 where
  pub letters : All IsLetter w
  pub few : length w ≤ MAX_PART

-- b is not empty
pub record AreParts (f : Parts) : Type 0 where
  pub first : IsPart f.first
  pub middle : IsPart f.middle
  pub last : IsPart f.last
  pub some : 0 < length f.middle

-- an even number of letters in b, and in a and c together
pub record AreEven (f : Parts) : Type 0 where
  pub middle : length f.middle % 2 ≡ 0
  pub ends : (length f.first + length f.last) % 2 ≡ 0

-- In a b b c no letter equals the one after it, the last and the first included. So it is then in each a bⁿ c.
pub record IsFamily (f : Parts) : Type 0 where
  pub parts : AreParts f
  pub even : AreEven f
  pub neighbours_differ : NeighboursDiffer (member f 2)

-- every member is stable by counts
abbrev pub IsStableFamily : Parts → Type 0
IsStableFamily f = (n : ℕ) → 1 ≤ n → IsStable (member f n)

-- every member a bⁿ c has the shift base + n·step
abbrev pub AreShiftsOf : Parts → FormalPoint → FormalPoint → Type 0
AreShiftsOf f base step = (n : ℕ) → 1 ≤ n → IsShift (member f n) (base +ₚ whole_point n *ₚ step)
