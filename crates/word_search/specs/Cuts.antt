-- Lists of the words on one side of a cut.
-- A prefix cuts the words of one length: those of which the first letters come before it, and the others.

use Rattle.std.specs.Prelude.{◌≡◌, ℕ, List, length, take, All, Contains}
use Rattle.std.specs.declared.cmp.Ordering.TheVariants.{Less}
use Rattle.std.specs.Ordering.{nat_cmp}
use Rattle.std.specs.Cmp.Lexicographic.{slice_cmp}
use Rattle.std.specs.List.Sorted.{IsStrictlySortedBy}
use Rattle.edge_words.specs.Canonical.{IsAtMost}
use Rattle.word_search.specs.Words.{IsSearched}

-- v comes before u in lexicographic order
abbrev pub IsBefore : List ℕ → List ℕ → Type 0
IsBefore v u = slice_cmp nat_cmp v u ≡ Less

-- the first letters of w come before p
abbrev pub StartsBefore : List ℕ → List ℕ → Type 0
StartsBefore p w = IsBefore (take (length p) w) p

-- they come before p, or are p
abbrev pub StartsAtMost : List ℕ → List ℕ → Type 0
StartsAtMost p w = IsAtMost (take (length p) w) p

-- the canonical stable words with n letters of which P holds, in lexicographic order, each once
pub record IsListOf (P : List ℕ → Type 0) (n : ℕ) (ws : List (List ℕ)) : Type 0 where
  pub sorted : IsStrictlySortedBy (slice_cmp nat_cmp) ws
  pub sound : All (IsSearched n) ws
  pub inside : All P ws
  pub complete : (w : List ℕ) → IsSearched n w → P w → Contains ws w
