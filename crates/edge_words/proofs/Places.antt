-- What stands at the odd and at the even places of joined lists.
use Rattle.std.proofs.Common.{◌≡◌, ℕ, ◌%◌, List, [], ◌∷◌, ◌++◌, length, sym, ap, refl, arith}
use Rattle.edge_words.specs.Stable.{at_odd_places, at_even_places}

-- an element in front stands at an odd place, and moves each other one by a place
pub places-cons : (a : ℕ) (ys : List ℕ) → (at_odd_places (a ∷ ys) ≡ a ∷ at_even_places ys) × (at_even_places (a ∷ ys) ≡ at_odd_places ys)
places-cons a [] = (refl, refl)
places-cons a (y ∷ ys) = (ap (λ zs. a ∷ zs) (sym (places-cons y ys).1), sym (places-cons y ys).0)

-- behind an even number of elements each place keeps its kind
pub at_odd_places-append_even : (xs ys : List ℕ) → length xs % 2 ≡ 0 → at_odd_places (xs ++ ys) ≡ at_odd_places xs ++ at_odd_places ys
at_odd_places-append_even [] ys h = refl
at_odd_places-append_even (a ∷ []) ys h = absurd (omega arith)
at_odd_places-append_even (a ∷ (b ∷ xs)) ys h = let l : length xs % 2 ≡ 0 = omega arith in ap (λ zs. a ∷ zs) (at_odd_places-append_even xs ys l)

pub at_even_places-append_even : (xs ys : List ℕ) → length xs % 2 ≡ 0 → at_even_places (xs ++ ys) ≡ at_even_places xs ++ at_even_places ys
at_even_places-append_even [] ys h = refl
at_even_places-append_even (a ∷ []) ys h = absurd (omega arith)
at_even_places-append_even (a ∷ (b ∷ xs)) ys h = let l : length xs % 2 ≡ 0 = omega arith in ap (λ zs. b ∷ zs) (at_even_places-append_even xs ys l)

-- behind an odd number of elements it changes its kind
pub at_odd_places-append_odd : (xs ys : List ℕ) → length xs % 2 ≡ 1 → at_odd_places (xs ++ ys) ≡ at_odd_places xs ++ at_even_places ys
at_odd_places-append_odd [] ys h = absurd (omega arith)
at_odd_places-append_odd (a ∷ []) ys h = (places-cons a ys).0
at_odd_places-append_odd (a ∷ (b ∷ xs)) ys h = let l : length xs % 2 ≡ 1 = omega arith in ap (λ zs. a ∷ zs) (at_odd_places-append_odd xs ys l)

pub at_even_places-append_odd : (xs ys : List ℕ) → length xs % 2 ≡ 1 → at_even_places (xs ++ ys) ≡ at_even_places xs ++ at_odd_places ys
at_even_places-append_odd [] ys h = absurd (omega arith)
at_even_places-append_odd (a ∷ []) ys h = (places-cons a ys).1
at_even_places-append_odd (a ∷ (b ∷ xs)) ys h = let l : length xs % 2 ≡ 1 = omega arith in ap (λ zs. b ∷ zs) (at_even_places-append_odd xs ys l)
