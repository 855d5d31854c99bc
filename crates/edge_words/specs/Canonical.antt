-- Rotations, reversals and the canonical form.
-- A closed path may be read from each of its crossings on, and both ways round. In combinatorics on words the rotations of a word and of its reversal
-- are its bracelet, and the least of them stands for all.

use Rattle.std.specs.Prelude.{◌≡◌, ◌⊎◌, ◌↔◌, ℕ, ◌<◌, List, ◌++◌, length, take, drop, reverse, IsTrue}
use Rattle.std.specs.Ordering.{nat_cmp, is_le}
use Rattle.std.specs.Cmp.Lexicographic.{slice_cmp}
use Rattle.edge_words.specs.Stable.{IsStable}
use Rattle.edge_words.specs.Word.{IsWord}

-- the list from its letter by + 1 on, round to letter by
abbrev pub rotated : ℕ → List ℕ → List ℕ
rotated by w = drop by w ++ take by w

-- v is w, read from one of its letters on
abbrev pub IsRotation : List ℕ → List ℕ → Type 0
IsRotation w v = (by : ℕ) × (by < length w) × (v ≡ rotated by w)

-- v is w, read from one of its letters on, forwards or backwards
abbrev pub IsInBracelet : List ℕ → List ℕ → Type 0
IsInBracelet w v = IsRotation w v ⊎ IsRotation (reverse w) v

-- v comes before u in lexicographic order, or equals it
abbrev pub IsAtMost : List ℕ → List ℕ → Type 0
IsAtMost v u = IsTrue (is_le (slice_cmp nat_cmp v u))

-- the least of a bracelet in lexicographic order
pub record IsCanonicalForm (w v : List ℕ) : Type 0 where
  pub in_bracelet : IsInBracelet w v
  pub least : (u : List ℕ) → IsInBracelet w u → IsAtMost v u

-- no list has two canonical forms
abbrev pub HasOneCanonicalForm : Type 0
HasOneCanonicalForm = (w u v : List ℕ) → IsCanonicalForm w u → IsCanonicalForm w v → u ≡ v

-- all of a bracelet have the same canonical form
abbrev pub BraceletSharesCanonicalForm : Type 0
BraceletSharesCanonicalForm = (w v u : List ℕ) → IsInBracelet w v → IsCanonicalForm w u → IsCanonicalForm v u

-- all of a word's bracelet are stable, or none is
abbrev pub BraceletKeepsStability : Type 0
BraceletKeepsStability = (w v : List ℕ) → IsWord w → IsInBracelet w v → IsStable w ↔ IsStable v
