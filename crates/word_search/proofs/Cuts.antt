-- How a cut moves from one prefix to the next.
use Rattle.std.proofs.Common.{◌≡◌, ℕ, ◌+◌, ◌<◌, ◌≤◌, List, [], ◌∷◌, ◌++◌, length, get_or, take, drop, refl, sym, ◌∙◌, ap, subst, arith, IsTrue}
use Rattle.std.proofs.Common.{length-append, length-take-le}
use Rattle.std.specs.Prelude.{◌↔◌}
use Rattle.std.specs.declared.cmp.Ordering.{Ordering}
use Rattle.std.specs.declared.cmp.Ordering.TheVariants.{Less, Equal, Greater}
use Rattle.std.specs.Ordering.{nat_cmp, ordering_then, is_le}
use Rattle.std.specs.Cmp.Lexicographic.{slice_cmp}
use Rattle.std.specs.FinMap.{slice_cmp-IsAntisymmetric, nat_cmp-IsAntisymmetric}
use Rattle.std.proofs.lemmas.Cmp.{ranked}
use Rattle.std.proofs.lemmas.List.{append-nil, length_push, nil_from_length, take-append-drop, take_more}
use Rattle.edge_words.specs.Letters.{IsLetter}
use Rattle.edge_words.proofs.Lexicographic.{slice_cmp-append}
use Rattle.word_search.specs.Cuts.{StartsBefore, StartsAtMost}
use Rattle.word_search.specs.Prefixes.{IsLeft}
use Rattle.word_search.specs.Words.{IsSearched}
use Rattle.word_search.proofs.Orders.{nat_less, kept_before, next_before, last_before}

-- how the start of w compares with p
abbrev order_at : List ℕ → List ℕ → Ordering
order_at p w = slice_cmp nat_cmp (take (length p) w) p

-- with one more letter it compares by the start and then by that letter
longer : (p w : List ℕ) (x : ℕ) → length p < length w
    → order_at (p ++ x ∷ []) w ≡ ordering_then (order_at p w) (ordering_then (nat_cmp (get_or w (length p) 0) x) Equal)
longer p w x h =
    ap (λ k. slice_cmp nat_cmp (take k w) (p ++ x ∷ [])) (length_push p x)
    ∙ ap (λ l. slice_cmp nat_cmp l (p ++ x ∷ [])) (take_more w (length p) 0 h)
    ∙ slice_cmp-append (take (length p) w) (get_or w (length p) 0 ∷ []) p (x ∷ []) (length-take-le (length p) w (omega arith))

-- the letter after the start
letter_there : (n : ℕ) (p w : List ℕ) → length p < n → IsSearched n w → IsLetter (get_or w (length p) 0)
letter_there n p w h is = is.is.is_word.letters (length p) 0 (omega (arith, is.count))

not_less : (y x : ℕ) → x ≤ y → nat_cmp y x ≡ Less → ⊥
not_less y x h less = let below : y < x = ranked y x Less (sym less) in omega arith

at_most_numbers : (y x : ℕ) (o : Ordering) → o ≡ nat_cmp y x → IsTrue (is_le o) → y < x + 1
at_most_numbers y x Less e h = let below : y < x = ranked y x Less e in omega arith
at_most_numbers y x Equal e h = let same : y ≡ x = ranked y x Equal e in omega arith
at_most_numbers y x Greater e h = cc

numbers_at_most : (y x : ℕ) (o : Ordering) → o ≡ nat_cmp y x → y ≤ x → IsTrue (is_le o)
numbers_at_most y x Less e h = refl
numbers_at_most y x Equal e h = refl
numbers_at_most y x Greater e h = let above : x < y = ranked y x Greater e in absurd (omega arith)

-- at most one number is less than the next
step : (y x : ℕ) → IsTrue (is_le (nat_cmp y x)) ↔ (nat_cmp y (x + 1) ≡ Less)
step y x = (
  λ h. nat_less y (x + 1) (at_most_numbers y x (nat_cmp y x) refl h),
  λ h. let below : y < x + 1 = ranked y (x + 1) Less (sym h) in numbers_at_most y x (nat_cmp y x) refl (omega arith),
)

-- before the first letter
pub cut_first : (n : ℕ) (p w : List ℕ) → length p < n → IsSearched n w → StartsBefore p w ↔ StartsBefore (p ++ 1 ∷ []) w
cut_first n p w h is =
    let letter = letter_there n p w h is in
    let long : length p < length w = omega (arith, is.count) in
    let same = kept_before (order_at p w) (nat_cmp (get_or w (length p) 0) 1) (not_less (get_or w (length p) 0) 1 letter.0) in
    (λ e. longer p w 1 long ∙ same.0 e, λ e. same.1 (sym (longer p w 1 long) ∙ e))

-- from one letter to the next
pub cut_next : (n : ℕ) (p : List ℕ) (x : ℕ) (w : List ℕ) → length p < n → IsSearched n w
    → StartsAtMost (p ++ x ∷ []) w ↔ StartsBefore (p ++ (x + 1) ∷ []) w
cut_next n p x w h is =
    let long : length p < length w = omega (arith, is.count) in
    let y = get_or w (length p) 0 in
    let same = next_before (order_at p w) (nat_cmp y x) (nat_cmp y (x + 1)) (step y x) in (
      λ e. longer p w (x + 1) long ∙ same.0 (subst (λ o. IsTrue (is_le o)) (longer p w x long) e),
      λ e. subst (λ o. IsTrue (is_le o)) (sym (longer p w x long)) (same.1 (sym (longer p w (x + 1) long) ∙ e)),
    )

-- past the last letter
pub cut_last : (n : ℕ) (p w : List ℕ) → length p < n → IsSearched n w → StartsBefore (p ++ 4 ∷ []) w ↔ StartsAtMost p w
cut_last n p w h is =
    let letter = letter_there n p w h is in
    let long : length p < length w = omega (arith, is.count) in
    let y = get_or w (length p) 0 in
    let same = last_before (order_at p w) (nat_cmp y 4) (nat_less y 4 (omega (arith, letter.1))) in
    (λ e. same.0 (sym (longer p w 4 long) ∙ e), λ e. longer p w 4 long ∙ same.1 e)

less_or_equal : (o : Ordering) → (o ≡ Equal → ⊥) → IsTrue (is_le o) → o ≡ Less
less_or_equal Less h le = refl
less_or_equal Equal h le = absurd (h refl)
less_or_equal Greater h le = cc

-- past a prefix with which no word begins
pub cut_left : (n : ℕ) (p w : List ℕ) → IsLeft n p → IsSearched n w → StartsBefore p w ↔ StartsAtMost p w
cut_left n p w left is = (
  λ e. ap is_le e,
  λ le. less_or_equal (order_at p w) (λ e. let start : take (length p) w ≡ p = slice_cmp-IsAntisymmetric nat_cmp-IsAntisymmetric (take (length p) w) p e in
      left w is (drop (length p) w, sym (take-append-drop (length p) w) ∙ ap (λ l. l ++ drop (length p) w) start)) le,
)

-- a whole word that is not searched for
pub left_whole : (n : ℕ) (p : List ℕ) → length p ≡ n → (IsSearched n p → ⊥) → IsLeft n p
left_whole n p len not w is prefix =
    let q = prefix.0 in
    let none : q ≡ [] = nil_from_length q (omega (arith, is.count, ap length prefix.1, length-append p q)) in
    not (subst (IsSearched n) (prefix.1 ∙ ap (λ r. p ++ r) none ∙ append-nil p) is)
