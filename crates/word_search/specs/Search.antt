-- What a search in one triangle has to answer.

use Rattle.std.specs.Prelude.{ℕ, List, length, All, Contains}
use Rattle.std.specs.declared.cmp.Ordering.{Ordering}
use Rattle.std.specs.Ordering.{nat_cmp, then_cmp, on}
use Rattle.std.specs.Cmp.Lexicographic.{slice_cmp}
use Rattle.std.specs.List.Sorted.{IsStrictlySortedBy}
use Rattle.rat_core.specs.Fraction.{ℚ}
use Rattle.gradient_bounds.specs.Clear.{IsClearAtPoint}
use Rattle.gradient_bounds.specs.Corridor.{HasCorridor}
use Rattle.gradient_bounds.specs.Slacks.{sure}
use Rattle.word_search.specs.Words.{IsCanonicalStable}

-- shorter lists first, and those of one length in lexicographic order
abbrev pub shortlex : List ℕ → List ℕ → Ordering
shortlex = then_cmp (on length nat_cmp) (slice_cmp nat_cmp)

-- Of the canonical stable words of which P holds, some that have a corridor in the triangle (x, y), in order and each once. One that is left out is not
-- clear there with the slack with which no claim is refused.
pub record IsSearchResult (x y : ℚ) (P : List ℕ → Type 0) (ws : List (List ℕ)) : Type 0 where
  pub sorted : IsStrictlySortedBy shortlex ws
  pub searched : All IsCanonicalStable ws
  pub inside : All P ws
  pub corridors : All (λ w. HasCorridor w x y) ws
  pub left_out : (w : List ℕ) → IsCanonicalStable w → P w → ¬ (Contains ws w) → ¬ (IsClearAtPoint w x y sure.gradient)
