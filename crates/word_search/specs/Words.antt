-- What is searched for.
-- A periodic path is read from each of its crossings on, and both ways round, so that of each bracelet the canonical form alone is searched for.

use Rattle.std.specs.Prelude.{◌≡◌, ℕ, List, length, All, Contains}
use Rattle.std.specs.Ordering.{nat_cmp}
use Rattle.std.specs.Cmp.Lexicographic.{slice_cmp}
use Rattle.std.specs.List.Sorted.{IsStrictlySortedBy}
use Rattle.edge_words.specs.Canonical.{IsCanonicalForm}
use Rattle.edge_words.specs.Stable.{IsStable}
use Rattle.edge_words.specs.Word.{IsWord}

-- a stable word that is the least of its bracelet
pub record IsCanonicalStable (w : List ℕ) : Type 0 where
  pub is_word : IsWord w
  pub stable : IsStable w
  pub canonical : IsCanonicalForm w w

-- one with n letters
pub record IsSearched (n : ℕ) (w : List ℕ) : Type 0 where
  pub is : IsCanonicalStable w
  pub count : length w ≡ n

-- the canonical stable words with n letters, in lexicographic order, each once
pub record IsListOfWords (n : ℕ) (ws : List (List ℕ)) : Type 0 where
  pub sorted : IsStrictlySortedBy (slice_cmp nat_cmp) ws
  pub sound : All (IsSearched n) ws
  pub complete : (w : List ℕ) → IsSearched n w → Contains ws w
