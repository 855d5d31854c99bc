-- What is kept beside a prefix, with one more letter.
use Rattle.std.proofs.Common.{◌≡◌, ℕ, ◌+◌, ◌<◌, ◌≤◌, List, [], ◌∷◌, ◌++◌, length, get_or, set, take, sym, ◌∙◌, ap, subst, arith, All, length-take-le}
use Rattle.std.proofs.lemmas.List.{get_or-take, take_more_set}
use Rattle.std.proofs.lemmas.List.Elements.{All-push}
use Rattle.edge_words.specs.Letters.{IsLetter}
use Rattle.word_search.specs.Prefixes.{AreCounts, IsBorder, IsKept, IsLeft}
use Rattle.word_search.proofs.Prunings.{left_border}

-- a letter that is less than the one after the border's start
pub left_kept : (letters odd even : List ℕ) (len border x n : ℕ) → IsKept letters odd even len border → 0 < len → len ≤ length letters
    → x < get_or letters border 0 → IsLeft n (take len letters ++ x ∷ [])
left_kept letters odd even len border x n is some room less =
    let count : length (take len letters) ≡ len = length-take-le len letters room in
    let short : border < length (take len letters) = is.tied.short (omega arith) in
    left_border n (take len letters) border x short is.tied.tie (omega (arith, get_or-take len letters border 0 (omega arith)))

-- the letters in use, with one more
pub letters_more : (letters p : List ℕ) (len x : ℕ) → take len letters ≡ p → len < length letters → take (len + 1) (set letters len x) ≡ p ++ x ∷ []
letters_more letters p len x e inside = take_more_set letters len x inside ∙ ap (λ q. q ++ x ∷ []) e

-- one more letter
pub kept_more : (letters odd even more_odd more_even : List ℕ) (len border next x : ℕ) → IsKept letters odd even len border → len < 24 → len < length letters
    → IsLetter x → IsBorder (take len letters ++ x ∷ []) next → AreCounts (take len letters ++ x ∷ []) more_odd more_even
    → IsKept (set letters len x) more_odd more_even (len + 1) next
kept_more letters odd even more_odd more_even len border next x is room inside letter tied counts =
    let more : take len letters ++ x ∷ [] ≡ take (len + 1) (set letters len x) = sym (take_more_set letters len x inside) in
    record {
      room = omega arith;
      spelled = subst (All IsLetter) more (All-push IsLetter (take len letters) x is.spelled letter);
      tied = subst (λ p. IsBorder p next) more tied;
      counts = subst (λ p. AreCounts p more_odd more_even) more counts;
    }
