-- How much freedom right results of a search leave, over the definitions alone.
use Rattle.std.specs.Prelude.{◌≡◌, ◌⊎◌, ◌≤◌, List, ℕ, length, Contains}
use Rattle.rat_core.specs.Fraction.{ℚ}
use Rattle.gradient_bounds.specs.Clear.{IsClearAtPoint}
use Rattle.gradient_bounds.specs.Corridor.{HasCorridor}
use Rattle.gradient_bounds.specs.Slacks.{sure}
use Rattle.word_search.specs.Search.{IsSearchResult}
use Rattle.word_search.specs.Words.{IsCanonicalStable}

-- A word of which P holds is in one of two lists alone: it has a corridor in the triangle (x, y), and is not clear there with the slack with which no
-- claim is refused.
pub record HasWordBetween (x y : ℚ) (P : List ℕ → Type 0) (ws ws' : List (List ℕ)) : Type 0 where
  pub word : List ℕ
  pub searched : IsCanonicalStable word
  pub inside : P word
  pub corridor : HasCorridor word x y
  pub not_clear : ¬ (IsClearAtPoint word x y sure.gradient)
  pub in_one : (Contains ws word × ¬ (Contains ws' word)) ⊎ (Contains ws' word × ¬ (Contains ws word))

-- two right results of a search for words of at most so many letters are one list, but for such a word
abbrev pub ResultsDifferBetween : Type 0
ResultsDifferBetween = (x y : ℚ) (bound : ℕ) (ws ws' : List (List ℕ)) → IsSearchResult x y (λ w. length w ≤ bound) ws
    → IsSearchResult x y (λ w. length w ≤ bound) ws' → (ws ≡ ws') ⊎ HasWordBetween x y (λ w. length w ≤ bound) ws ws'
