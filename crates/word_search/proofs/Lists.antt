-- Lists of words on one side of a cut.
use Rattle.std.proofs.Common.{◌≡◌, ℕ, List, [], ◌∷◌, ◌++◌, length, take, inl, inr, true, refl, sym, ◌∙◌, ap, subst, arith, All, Contains}
use Rattle.std.specs.Prelude.{◌⊎◌}
use Rattle.std.specs.Prelude.{◌↔◌}
use Rattle.std.specs.declared.cmp.Ordering.{Ordering}
use Rattle.std.specs.declared.cmp.Ordering.TheVariants.{Less, Equal, Greater}
use Rattle.std.specs.Ordering.{nat_cmp, is_le}
use Rattle.std.specs.Cmp.Lexicographic.{slice_cmp}
use Rattle.std.specs.FinMap.{slice_cmp-IsAntisymmetric, nat_cmp-IsAntisymmetric}
use Rattle.std.specs.List.Sorted.{IsStrictlySortedBy}
use Rattle.std.proofs.lemmas.List.{take_all}
use Rattle.std.proofs.lemmas.List.Elements.{All-from_recursion, recursion_from_All, All-head, All-nil, All-push, All-tail, Contains-append_left, Contains-push}
use Rattle.edge_words.proofs.Lexicographic.{at_most_itself}
use Rattle.word_search.specs.Cuts.{IsBefore, IsListOf, StartsBefore, StartsAtMost}
use Rattle.word_search.specs.Words.{IsSearched, IsListOfWords}

-- one more element at the end of a sorted list, after all others
pub sorted_push : (c : List ℕ → List ℕ → Ordering) (xs : List (List ℕ)) (x : List ℕ) → IsStrictlySortedBy c xs → All (λ y. c y x ≡ Less) xs
    → IsStrictlySortedBy c (xs ++ x ∷ [])
unfolding IsStrictlySortedBy
sorted_push c [] x sorted after = (tt, tt)
sorted_push c (y ∷ ys) x sorted after = (
  recursion_from_All (λ z. c y z ≡ Less) (ys ++ x ∷ [])
      (All-push (λ z. c y z ≡ Less) ys x (All-from_recursion (λ z. c y z ≡ Less) ys sorted.0) (All-head (λ z. c z x ≡ Less) y ys after)),
  sorted_push c ys x sorted.1 (All-tail (λ z. c z x ≡ Less) y ys after),
)

pub sorted_none : (c : List ℕ → List ℕ → Ordering) → IsStrictlySortedBy c []
unfolding IsStrictlySortedBy
sorted_none c = tt

-- the side of a cut may be stated otherwise
pub list_of_same : (P Q : List ℕ → Type 0) (n : ℕ) (ws : List (List ℕ)) → ((w : List ℕ) → IsSearched n w → P w ↔ Q w) → IsListOf P n ws → IsListOf Q n ws
list_of_same P Q n ws same is = record {
  sorted = is.sorted;
  sound = is.sound;
  inside = λ k d h. (same _ (is.sound k d h)).0 (is.inside k d h);
  complete = λ w of q. is.complete w of ((same w of).1 q);
}

-- before all words there are none
pub list_at_start : (n : ℕ) → IsListOf (StartsBefore []) n []
list_at_start n = record {
  sorted = sorted_none (slice_cmp nat_cmp);
  sound = All-nil (IsSearched n);
  inside = All-nil (StartsBefore []);
  complete = λ w is before. cc;
}

-- after all words
pub list_at_end : (n : ℕ) (ws : List (List ℕ)) → IsListOf (StartsAtMost []) n ws → IsListOfWords n ws
list_at_end n ws is = record {
  sorted = is.sorted;
  sound = is.sound;
  complete = λ w of. is.complete w of refl;
}

before_or_same : (o : Ordering) → is_le o ≡ true → (o ≡ Less) ⊎ (o ≡ Equal)
before_or_same Less h = inl refl
before_or_same Equal h = inr refl
before_or_same Greater h = cc

-- a whole word
pub list_push : (n : ℕ) (p : List ℕ) (ws : List (List ℕ)) → IsSearched n p → IsListOf (StartsBefore p) n ws → IsListOf (StartsAtMost p) n (ws ++ p ∷ [])
list_push n p ws of is =
    let start : (w : List ℕ) → IsSearched n w → take (length p) w ≡ w = λ w on. take_all (length p) w (omega (arith, on.count, of.count)) in
    record {
      sorted = sorted_push (slice_cmp nat_cmp) ws p is.sorted (λ k d h. subst (λ v. IsBefore v p) (start _ (is.sound k d h)) (is.inside k d h));
      sound = All-push (IsSearched n) ws p is.sound of;
      inside = All-push (StartsAtMost p) ws p (λ k d h. ap is_le (is.inside k d h))
          (subst (λ v. is_le (slice_cmp nat_cmp v p) ≡ true) (sym (start p of)) (at_most_itself p));
      complete = λ w on le.
          elim (before_or_same (slice_cmp nat_cmp (take (length p) w) p) le) [
            | inl before ↦ Contains-append_left ws (p ∷ []) w (is.complete w on before)
            | inr same ↦
                let e : w ≡ p = sym (start w on) ∙ slice_cmp-IsAntisymmetric nat_cmp-IsAntisymmetric (take (length p) w) p same in
                subst (Contains (ws ++ p ∷ [])) (sym e) (Contains-push ws p)
          ];
    }
