-- Words.
-- A word is the list of the edges that a periodic billiard path in a triangle crosses in one period, an even number of them, and no edge twice in a row.
-- Source: Richard Evan Schwartz, Obtuse Triangular Billiards I: Near the (2, 3, 6) Triangle, Experimental Mathematics 15 (2006). The bounds on the
-- length are this program's own.

use Rattle.std.specs.Prelude.{◌≡◌, ◌≢◌, ℕ, ◌%◌, ◌≤◌, List, length, All}
use Rattle.edge_words.specs.declared.TheConstants.{MAX_LETTERS}
use Rattle.edge_words.specs.Letters.{IsLetter, IsPlace, letter_at, letter_after}

-- an even number from 6 to 64
pub record IsWordLength (n : ℕ) : Type 0 where
  pub even : n % 2 ≡ 0
  pub at_least : 6 ≤ n
  pub at_most : n ≤ MAX_LETTERS

-- no letter equals the one after it, the last and the first included
abbrev pub NeighboursDiffer : List ℕ → Type 0
NeighboursDiffer w = (i : ℕ) → IsPlace w i → letter_at w i ≢ letter_after w i

-- letters 1, 2 and 3 in an even number from 6 to 64, of which no two cyclic neighbours are equal
pub record IsWord (w : List ℕ) : Type 0 where
  pub letters : All IsLetter w
  pub even_length : IsWordLength (length w)
  pub neighbours_differ : NeighboursDiffer w
