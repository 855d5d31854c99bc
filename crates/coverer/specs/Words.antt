-- Sets of words, and what a box says of the words that are not in its set.
use Rattle.std.specs.Prelude.{◌≡◌, ◌≤◌, ℕ, ◌-◌, List}
use Rattle.std.specs.Int.{bit_at}
use Rattle.rational_polygon.specs.Square.{Square}
use Rattle.gradient_bounds.specs.Clear.{IsShut}
use Rattle.gradient_bounds.specs.Slacks as slacks
use Rattle.covering_file.specs.Faults.{word_at, IsListed}
use Rattle.covering_file.specs.declared.TheConstants.{MAX_WORDS}
use Rattle.coverer.specs.declared.word_set.WordSet.{WordSet}

-- the set has the word of number i, counted from 1
abbrev pub IsIn : WordSet → ℕ → Type 0
IsIn set i = bit_at set.bits (i - 1) ≡ 1

-- each listed word that is not in the set is shut on the box
abbrev pub AreShutOut : List (List ℕ) → WordSet → Square → Type 0
AreShutOut words set box = (i : ℕ) → IsListed words i → ¬ (IsIn set i) → IsShut (word_at words i) box slacks.sure.gradient

-- each word of the first set is in the second: a word that was dropped does not come back
abbrev pub AreAmong : WordSet → WordSet → Type 0
AreAmong fewer set = (i : ℕ) → 1 ≤ i → i ≤ MAX_WORDS → IsIn fewer i → IsIn set i
