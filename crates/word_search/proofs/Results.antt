-- Results of a search, from one length to the next.
use Rattle.std.proofs.Common.{◌≡◌, ℕ, ◌+◌, ◌%◌, ◌<◌, ◌≤◌, List, [], ◌∷◌, ◌++◌, length, get_or, inl, inr, refl, sym, ◌∙◌, ap, subst, arith, Contains}
use Rattle.std.proofs.Common.{length-append}
use Rattle.std.specs.Prelude.{◌↔◌, ◌⊎◌}
use Rattle.std.specs.declared.cmp.Ordering.TheVariants.{Less}
use Rattle.std.specs.Ordering.{nat_cmp, ordering_then}
use Rattle.std.specs.Cmp.Lexicographic.{slice_cmp}
use Rattle.std.proofs.lemmas.Bool.{cases_lt}
use Rattle.std.proofs.lemmas.List.{get_or_at, get_or_append_left}
use Rattle.std.proofs.lemmas.List.Elements.{All-nil, All-push, Contains-append_left, Contains-append_cases, Contains-push}
use Rattle.std.proofs.lemmas.Map.Keys.{Less-from_sorted}
use Rattle.rat_core.specs.Fraction.{ℚ}
use Rattle.gradient_bounds.specs.Clear.{IsClearAtPoint}
use Rattle.gradient_bounds.specs.Corridor.{HasCorridor}
use Rattle.gradient_bounds.specs.Slacks.{sure}
use Rattle.word_search.specs.Search.{shortlex, IsSearchResult}
use Rattle.word_search.specs.Words.{IsCanonicalStable, IsSearched, IsListOfWords}
use Rattle.word_search.proofs.Lists.{sorted_none, sorted_push}
use Rattle.word_search.proofs.Orders.{nat_less, nat_equal}

-- w has fewer than n letters, or n and stands in vs
abbrev pub IsTested : ℕ → List (List ℕ) → List ℕ → Type 0
IsTested n vs w = (length w < n) ⊎ ((length w ≡ n) × Contains vs w)

-- the words in question may be stated otherwise
pub result_same : (x y : ℚ) (P Q : List ℕ → Type 0) (ws : List (List ℕ)) → ((w : List ℕ) → IsCanonicalStable w → P w ↔ Q w)
    → IsSearchResult x y P ws → IsSearchResult x y Q ws
result_same x y P Q ws same is = record {
  sorted = is.sorted;
  searched = is.searched;
  inside = λ k d h. (same _ (is.searched k d h)).0 (is.inside k d h);
  corridors = is.corridors;
  left_out = λ w of q. is.left_out w of ((same w of).1 q);
}

-- no word has fewer than six letters
pub result_at_start : (x y : ℚ) → IsSearchResult x y (λ w. length w < 6) []
result_at_start x y = record {
  sorted = sorted_none shortlex;
  searched = All-nil IsCanonicalStable;
  inside = All-nil (λ w. length w < 6);
  corridors = All-nil (λ w. HasCorridor w x y);
  left_out = λ w of short. absurd (omega (arith, of.is_word.even_length.at_least, short));
}

-- before the first word of a length
pub none_tested : (n : ℕ) (w : List ℕ) → (length w < n) ↔ IsTested n [] w
none_tested n w = (λ h. inl h, λ h. elim h [ inl short ↦ short | inr tested ↦ absurd (omega (arith, tested.1.1)) ])

fewer_or_as_many : (n : ℕ) (w : List ℕ) → n % 2 ≡ 0 → IsCanonicalStable w → length w < n + 2 → (length w < n) ⊎ (length w ≡ n)
fewer_or_as_many n w even of h =
    let whole = of.is_word.even_length.even in
    elim (cases_lt (length w) n) [ inl short ↦ inl short | inr long ↦ inr (omega arith) ]

-- after the last
pub all_tested : (n : ℕ) (vs : List (List ℕ)) (w : List ℕ) → n % 2 ≡ 0 → IsListOfWords n vs → IsCanonicalStable w → IsTested n vs w ↔ (length w < n + 2)
all_tested n vs w even list of = (
  λ h. elim h [ inl short ↦ omega arith | inr tested ↦ omega (arith, tested.0) ],
  λ h. elim (fewer_or_as_many n w even of h) [ inl short ↦ inl short | inr same ↦ inr (same, list.complete w (record { is = of; count = same })) ],
)

-- up to a bound
pub up_to : (n : ℕ) (w : List ℕ) → n % 2 ≡ 0 → IsCanonicalStable w → (length w < n + 2) ↔ (length w ≤ n)
up_to n w even of = let whole = of.is_word.even_length.even in (λ h. omega arith, λ h. omega arith)

-- the next word of a list
pub next_word : (n : ℕ) (vs rest : List (List ℕ)) (v : List ℕ) → IsListOfWords n (vs ++ (v ∷ rest)) → IsSearched n v
next_word n vs rest v list =
    subst (IsSearched n) (get_or_at vs v rest [] (length vs) refl)
    (list.sound (length vs) [] (omega (arith, length-append vs (v ∷ rest))))

-- one that was tested comes before it
tested_before : (n : ℕ) (vs rest : List (List ℕ)) (v y : List ℕ) → IsListOfWords n (vs ++ (v ∷ rest)) → IsTested n vs y → shortlex y v ≡ Less
tested_before n vs rest v y list tested =
    let count = (next_word n vs rest v list).count in
    elim tested [
      | inl short ↦ ap (λ o. ordering_then o (slice_cmp nat_cmp y v)) (nat_less (length y) (length v) (omega (arith, short, count)))
      | inr same ↦
          let k = same.1.0 in
          let all = vs ++ (v ∷ rest) in
          let less = Less-from_sorted (slice_cmp nat_cmp) all k (length vs) y list.sorted same.1.1 (omega (arith, length-append vs (v ∷ rest))) in
          let here : get_or all k y ≡ y = get_or_append_left vs (v ∷ rest) y k same.1.1 ∙ same.1.2 in
          let there : get_or all (length vs) y ≡ v = get_or_at vs v rest y (length vs) refl in
          ap (λ o. ordering_then o (slice_cmp nat_cmp y v)) (nat_equal (length y) (length v) (same.0 ∙ sym count))
          ∙ ap (λ u. slice_cmp nat_cmp u v) (sym here) ∙ ap (slice_cmp nat_cmp (get_or all k y)) (sym there) ∙ less
    ]

tested_more : (n : ℕ) (vs : List (List ℕ)) (v y : List ℕ) → IsTested n vs y → IsTested n (vs ++ v ∷ []) y
tested_more n vs v y tested = elim tested [ inl short ↦ inl short | inr same ↦ inr (same.0, Contains-append_left vs (v ∷ []) y same.1) ]

only : (v y : List ℕ) → Contains (v ∷ []) y → v ≡ y
only v y has = let e : has.0 ≡ 0 = omega (arith, has.1) in sym (ap (λ k. get_or (v ∷ []) k y) e) ∙ has.2

-- what is tested with one more word is that word or was tested before
tested_cases : (n : ℕ) (vs : List (List ℕ)) (v y : List ℕ) → IsTested n (vs ++ v ∷ []) y → IsTested n vs y ⊎ (v ≡ y)
tested_cases n vs v y tested =
    elim tested [
      | inl short ↦ inl (inl short)
      | inr same ↦
          elim (Contains-append_cases vs (v ∷ []) y same.1) [
            | inl old ↦ inl (inr (same.0, old))
            | inr new ↦ inr (only v y new)
          ]
    ]

-- a word that is seen to have a corridor
pub result_picked : (x y : ℚ) (n : ℕ) (vs rest : List (List ℕ)) (v : List ℕ) (ws : List (List ℕ)) → IsListOfWords n (vs ++ (v ∷ rest))
    → HasCorridor v x y → IsSearchResult x y (IsTested n vs) ws → IsSearchResult x y (IsTested n (vs ++ v ∷ [])) (ws ++ v ∷ [])
result_picked x y n vs rest v ws list corridor is =
    let of = next_word n vs rest v list in
    record {
      sorted = sorted_push shortlex ws v is.sorted (λ k d h. tested_before n vs rest v _ list (is.inside k d h));
      searched = All-push IsCanonicalStable ws v is.searched of.is;
      inside = All-push (IsTested n (vs ++ v ∷ [])) ws v (λ k d h. tested_more n vs v _ (is.inside k d h)) (inr (of.count, Contains-push vs v));
      corridors = All-push (λ w. HasCorridor w x y) ws v is.corridors corridor;
      left_out = λ w on tested out.
          elim (tested_cases n vs v w tested) [
            | inl old ↦ is.left_out w on old (λ has. out (Contains-append_left ws (v ∷ []) w has))
            | inr same ↦ absurd (out (subst (Contains (ws ++ v ∷ [])) same (Contains-push ws v)))
          ];
    }

-- one that is not, and so is not clear
pub result_passed : (x y : ℚ) (n : ℕ) (vs : List (List ℕ)) (v : List ℕ) (ws : List (List ℕ)) → ¬ (IsClearAtPoint v x y sure.gradient)
    → IsSearchResult x y (IsTested n vs) ws → IsSearchResult x y (IsTested n (vs ++ v ∷ [])) ws
result_passed x y n vs v ws not_clear is = record {
  sorted = is.sorted;
  searched = is.searched;
  inside = λ k d h. tested_more n vs v _ (is.inside k d h);
  corridors = is.corridors;
  left_out = λ w on tested out.
      elim (tested_cases n vs v w tested) [
        | inl old ↦ is.left_out w on old out
        | inr same ↦ subst (λ u. ¬ (IsClearAtPoint u x y sure.gradient)) same not_clear
      ];
}
