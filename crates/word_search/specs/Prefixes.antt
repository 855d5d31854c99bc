-- Prefixes of words, and what is kept beside them.

use Rattle.std.specs.Prelude.{◌≡◌, ℕ, ◌+◌, ◌-◌, ◌<◌, ◌≤◌, List, ◌++◌, length, take, drop, slice_index, All}
use Rattle.edge_words.specs.Letters.{IsLetter}
use Rattle.edge_words.specs.Stable.{at_odd_places, at_even_places, count_of}
use Rattle.word_search.specs.Words.{IsSearched}

-- w begins with p
abbrev pub HasPrefix : List ℕ → List ℕ → Type 0
HasPrefix p w = (q : List ℕ) × (w ≡ p ++ q)

-- no canonical stable word with n letters begins with p
abbrev pub IsLeft : ℕ → List ℕ → Type 0
IsLeft n p = (w : List ℕ) → IsSearched n w → ¬ (HasPrefix p w)

-- the last b letters of p are its first b, and not all of it
pub record IsBorder (p : List ℕ) (b : ℕ) : Type 0 where
  pub short : 0 < length p → b < length p
  pub tie : drop (length p - b) p ≡ take b p

-- the counts of each letter at the odd and at the even places of p
pub record AreCounts (p odd even : List ℕ) : Type 0 where
  pub at_odd : (x : ℕ) → IsLetter x → slice_index odd x ≡ count_of x (at_odd_places p)
  pub at_even : (x : ℕ) → IsLetter x → slice_index even x ≡ count_of x (at_even_places p)

-- By how much the letters counted in a are ahead of those in b, over the letters of which a has more. A difference of natural numbers is at least 0.
abbrev pub excess : List ℕ → List ℕ → ℕ
excess a b = (slice_index a 1 - slice_index b 1) + (slice_index a 2 - slice_index b 2) + (slice_index a 3 - slice_index b 3)

-- the letters in use, with their border and their counts
pub record IsKept (letters odd even : List ℕ) (len border : ℕ) : Type 0 where
  pub room : len ≤ 24
  pub spelled : All IsLetter (take len letters)
  pub tied : IsBorder (take len letters) border
  pub counts : AreCounts (take len letters) odd even
