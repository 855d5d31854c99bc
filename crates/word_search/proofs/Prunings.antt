-- Prefixes with which no canonical word begins.
use Rattle.std.proofs.Common.{◌≡◌, ℕ, ◌+◌, ◌-◌, ◌%◌, ◌<◌, List, [], ◌∷◌, ◌++◌, length, get_or, take, drop, reverse, inl, inr, refl, sym, ◌∙◌, ap}
use Rattle.std.proofs.Common.{subst, arith, IsTrue}
use Rattle.std.proofs.Common.{append_assoc, length-append, length-drop, length-take-le}
use Rattle.std.specs.Ordering.{nat_cmp, is_le}
use Rattle.std.specs.Cmp.Lexicographic.{slice_cmp}
use Rattle.std.proofs.Math.Nat.{mod-eq_of_lt}
use Rattle.std.proofs.lemmas.List.{drop-append-le, drop_all, get_or_append_left, get_or_at, length-reverse, length_push, reverse-append}
use Rattle.std.proofs.lemmas.List.{take-append-drop, take-append-le, take_more}
use Rattle.edge_words.specs.Canonical.{IsRotation, IsInBracelet, IsAtMost, IsCanonicalForm}
use Rattle.edge_words.proofs.Lexicographic.{slice_cmp-append}
use Rattle.edge_words.proofs.Rotations.{IsRotation-swap}
use Rattle.word_search.specs.Cuts.{IsBefore}
use Rattle.word_search.specs.Prefixes.{IsBorder, IsLeft}
use Rattle.word_search.proofs.Orders.{at_most_first, before_last, not_at_most_where_before}

-- the start of a canonical word is at most the start of each list of its bracelet
start_at_most : (w t s v r : List ℕ) → IsCanonicalForm w w → w ≡ t ++ s → IsInBracelet w (v ++ r) → length t ≡ length v → IsAtMost t v
start_at_most w t s v r is parts of len =
    at_most_first _ (slice_cmp nat_cmp s r)
    (subst (λ o. IsTrue (is_le o)) (slice_cmp-append t s v r len) (subst (λ x. IsAtMost x (v ++ r)) parts (is.least (v ++ r) of)))

-- no canonical word has a prefix of which a later part comes before the start
left_by_rotation : (w p q u v t r : List ℕ) → IsCanonicalForm w w → w ≡ p ++ q → p ≡ u ++ v → p ≡ t ++ r → length t ≡ length v → IsBefore v t
    → 0 < length w → ⊥
left_by_rotation w p q u v t r is whole back front len before some =
    let turned : w ≡ u ++ (v ++ q) = whole ∙ ap (λ x. x ++ q) back ∙ append_assoc u v q in
    let rotation : IsRotation w ((v ++ q) ++ u) = subst (λ x. IsRotation x ((v ++ q) ++ u)) (sym turned)
    (IsRotation-swap u (v ++ q) (subst (λ x. 0 < length x) turned some)) in
    let of : IsRotation w (v ++ (q ++ u)) = subst (IsRotation w) (append_assoc v q u) rotation in
    not_at_most_where_before t v before
    (start_at_most w t (r ++ q) v (q ++ u) is (whole ∙ ap (λ x. x ++ q) front ∙ append_assoc t r q) (inl of) len)

-- no canonical word has a prefix that read backwards comes before itself
left_by_reversal : (w p q : List ℕ) → IsCanonicalForm w w → w ≡ p ++ q → IsBefore (reverse p) p → 0 < length w → ⊥
left_by_reversal w p q is whole before some =
    let turned : reverse w ≡ reverse q ++ reverse p = ap reverse whole ∙ reverse-append p q in
    let len : 0 < length (reverse w) = omega (arith, some, length-reverse w) in
    let rotation : IsRotation (reverse w) (reverse p ++ reverse q) = subst (λ x. IsRotation x (reverse p ++ reverse q)) (sym turned)
    (IsRotation-swap (reverse q) (reverse p) (subst (λ x. 0 < length x) turned len)) in
    not_at_most_where_before p (reverse p) before (start_at_most w p q (reverse p) (reverse q) is whole (inr rotation) (sym (length-reverse p)))

-- after a border, a letter that is less than the one after the start
pub left_border : (n : ℕ) (p : List ℕ) (b x : ℕ) → b < length p → drop (length p - b) p ≡ take b p → x < get_or p b 0 → IsLeft n (p ++ x ∷ [])
left_border n p b x short tie less w is prefix =
    let k = length p in
    let v = drop (k - b) p ++ x ∷ [] in
    let t = take (b + 1) p in
    let back : p ++ x ∷ [] ≡ take (k - b) p ++ v = ap (λ l. l ++ x ∷ []) (sym (take-append-drop (k - b) p))
    ∙ append_assoc (take (k - b) p) (drop (k - b) p) (x ∷ []) in
    let front : p ++ x ∷ [] ≡ t ++ (drop (b + 1) p ++ x ∷ []) = ap (λ l. l ++ x ∷ []) (sym (take-append-drop (b + 1) p))
    ∙ append_assoc t (drop (b + 1) p) (x ∷ []) in
    let len : length t ≡ length v = omega (arith, short, length-take-le (b + 1) p (omega arith), length_push (drop (k - b) p) x, length-drop (k - b) p) in
    let start : IsBefore (take b p ++ x ∷ []) (take b p ++ get_or p b 0 ∷ []) = before_last (take b p) x (get_or p b 0) less in
    let before : IsBefore v t = subst (λ l. IsBefore l t) (ap (λ l. l ++ x ∷ []) (sym tie))
    (subst (IsBefore (take b p ++ x ∷ [])) (sym (take_more p b 0 short)) start) in
    left_by_rotation w (p ++ x ∷ []) prefix.0 (take (k - b) p) v t (drop (b + 1) p ++ x ∷ []) is.is.canonical prefix.1 back front len before
    (omega (arith, is.is.is_word.even_length.at_least))

-- a prefix that read backwards comes before itself
pub left_back : (n : ℕ) (p : List ℕ) → IsBefore (reverse p) p → IsLeft n p
left_back n p before w is prefix =
    left_by_reversal w p prefix.0 is.is.canonical prefix.1 before (omega (arith, is.is.is_word.even_length.at_least))

-- equal neighbours
pub left_equal : (n : ℕ) (p : List ℕ) (x : ℕ) → 0 < length p → get_or p (length p - 1) 0 ≡ x → IsLeft n (p ++ x ∷ [])
left_equal n p x some same w is prefix =
    let k = length p in
    let q = prefix.0 in
    let whole : w ≡ p ++ (x ∷ q) = prefix.1 ∙ append_assoc p (x ∷ []) q in
    let long : length w ≡ k + (length q + 1) = omega (arith, ap length whole, length-append p (x ∷ q)) in
    let here : get_or w (k - 1) 0 ≡ x = ap (λ l. get_or l (k - 1) 0) whole ∙ get_or_append_left p (x ∷ q) 0 (k - 1) (omega arith) ∙ same in
    let there : get_or w k 0 ≡ x = ap (λ l. get_or l k 0) whole ∙ get_or_at p x q 0 k refl in
    let wrap : k % length w ≡ k = mod-eq_of_lt (omega arith) in
    is.is.is_word.neighbours_differ k (omega arith, omega arith) (here ∙ sym there ∙ ap (λ i. get_or w i 0) (sym wrap))

-- the empty border
pub border_none : (p : List ℕ) (x : ℕ) → IsBorder (p ++ x ∷ []) 0
border_none p x =
    let l = p ++ x ∷ [] in
    record {
      short = λ some. some;
      tie = drop_all (length l - 0) l (omega arith);
    }

-- the border goes on
pub border_more : (p : List ℕ) (b x : ℕ) → 0 < length p → IsBorder p b → get_or p b 0 ≡ x → IsBorder (p ++ x ∷ []) (b + 1)
border_more p b x some is same =
    let k = length p in
    let l = p ++ x ∷ [] in
    let short : b < k = is.short some in
    let len : length l ≡ k + 1 = length_push p x in
    let from : length l - (b + 1) ≡ k - b = omega arith in
    record {
      short = λ any. omega arith;
      tie = ap (λ i. drop i l) from ∙ drop-append-le (k - b) p (x ∷ []) (omega arith) ∙ ap (λ a. a ++ x ∷ []) is.tie
          ∙ ap (λ y. take b p ++ y ∷ []) (sym same) ∙ sym (take_more p b 0 short) ∙ sym (take-append-le (b + 1) p (x ∷ []) (omega arith));
    }
