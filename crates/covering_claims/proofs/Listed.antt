-- The test of a listed word is that of the word.
use Rattle.std.proofs.Common.{◌≡◌, sym, ap, subst, ◌∙◌, ℕ, suc, ◌+◌, ◌-◌, ◌<◌, ◌≤◌, List, [], ◌∷◌, ◌++◌, length, take, true, false, inl, inr, arith}
use Rattle.std.specs.Prelude.{slice_index_or}
use Rattle.std.proofs.Math.Seq.{take-suc}
use Rattle.std.proofs.lemmas.List.{get_or_default, take_all}
use Rattle.std.proofs.lemmas.Bool.{cases_lt}
use Rattle.covering_file.specs.Faults.{word_at, IsListed}

pub listed_test : (tests words : List (List ℕ)) (i : ℕ) (test : List ℕ) → tests ≡ words → IsListed words i → test ≡ slice_index_or tests (i - 1) test
    → test ≡ word_at words i
listed_test tests words i test same listed is =
    let within : i - 1 < length words = omega (arith, listed.0, listed.1) in
    subst (λ (ws : List (List ℕ)). test ≡ slice_index_or ws (i - 1) test) same is ∙ get_or_default words (i - 1) test _ within

-- ---- the tests of the words so far

pub one_more : (words old new : List (List ℕ)) (k : ℕ) (word test : List ℕ) → word ≡ slice_index_or words k word → old ≡ take k words
    → new ≡ old ++ test ∷ [] → test ≡ word → k < length words → new ≡ take (k + 1) words
one_more words old new k word test is so_far more same within =
    let next : take (suc k) words ≡ take k words ++ slice_index_or words k word ∷ [] = take-suc words k word within in
    let here : test ≡ slice_index_or words k word = same ∙ is in
    let one : suc k ≡ k + 1 = omega arith in
    more ∙ ap (λ (ts : List (List ℕ)). ts ++ test ∷ []) so_far ∙ ap (λ (w : List ℕ). take k words ++ w ∷ []) here ∙ sym next ∙ ap (λ n. take n words) one

pub all_tests : (words tests : List (List ℕ)) (k : ℕ) → tests ≡ take k words → length words ≤ k → tests ≡ words
all_tests words tests k is past = is ∙ take_all k words past

-- ---- what no word is

-- what is not so of the words before a number, nor of the test of that word, is not so of those before the next number
pub none_more : (P : List ℕ → Type 0) (words tests : List (List ℕ)) (i : ℕ) → tests ≡ words
    → ((j : ℕ) → IsListed words j → j < i → ¬ (P (word_at words j))) → (P (word_at tests i) → false ≡ true)
    → (j : ℕ) → IsListed words j → j < i + 1 → ¬ (P (word_at words j))
none_more P words tests i kept before here j listed less clear =
    elim (cases_lt j i) [
      | inl earlier ↦ before j listed earlier clear
      | inr later ↦
          let same : j ≡ i = omega (arith, less, later) in
          let at = subst (λ (ws : List (List ℕ)). P (word_at ws i)) (sym kept) (subst (λ (k : ℕ). P (word_at words k)) same clear) in
          let none : false ≡ true = here at in
          cc
    ]
