-- Stable words.
-- A periodic path is stable where each triangle near by has a periodic path with the same word. The word alone decides this: each edge has to be
-- crossed as often at odd as at even places.
-- Source: Galperin, Stepin and Vorobets, Periodic billiard trajectories in polygons: generating mechanisms, Russian Mathematical Surveys 47 (1992),
-- as in Richard Evan Schwartz, Obtuse Triangular Billiards I: Near the (2, 3, 6) Triangle, Experimental Mathematics 15 (2006).

use Rattle.std.specs.Prelude.{◌≡◌, ◌==◌, ℕ, List, [], ◌∷◌, count_by}
use Rattle.edge_words.specs.Letters.{IsLetter}

-- the letters at places 1, 3, 5 and so on
abbrev pub at_odd_places : List ℕ → List ℕ
at_odd_places [] = []
at_odd_places (x ∷ []) = x ∷ []
at_odd_places (x ∷ (y ∷ w)) = x ∷ at_odd_places w

-- the letters at places 2, 4, 6 and so on
abbrev pub at_even_places : List ℕ → List ℕ
at_even_places [] = []
at_even_places (x ∷ []) = []
at_even_places (x ∷ (y ∷ w)) = y ∷ at_even_places w

-- how often a letter stands in a list
abbrev pub count_of : ℕ → List ℕ → ℕ
count_of x w = count_by (λ y. y == x) w

-- a letter stands equally often at odd and at even places
abbrev pub IsBalanced : ℕ → List ℕ → Type 0
IsBalanced x w = count_of x (at_odd_places w) ≡ count_of x (at_even_places w)

-- each letter does
abbrev pub IsStable : List ℕ → Type 0
IsStable w = (x : ℕ) → IsLetter x → IsBalanced x w
