-- How often letters stand at odd and at even places of a prefix.
use Rattle.std.proofs.Common.{◌≡◌, ℕ, ◌+◌, ◌-◌, ◌/◌, ◌%◌, ◌<◌, ◌≤◌, List, [], ◌∷◌, ◌++◌, length, inl, inr, sym, ◌∙◌, ap, subst, refl, arith, length-append}
use Rattle.std.proofs.lemmas.Bool.{cases_lt}
use Rattle.std.proofs.lemmas.Bool.Decides.{nat_tests}
use Rattle.std.specs.Prelude.{slice_index}
use Rattle.edge_words.specs.Letters.{IsLetter}
use Rattle.edge_words.specs.Stable.{at_odd_places, at_even_places, count_of}
use Rattle.edge_words.proofs.Balance.{once, count_of-cons, counts_even, counts_odd, count_at_most}
use Rattle.word_search.specs.Prefixes.{AreCounts, excess, IsLeft}
use Rattle.word_search.specs.Words.{IsSearched}

-- one element is at most one of three letters
once_each : (a : ℕ) → once 1 a + once 2 a + once 3 a ≤ 1
once_each a = grind (arith, nat_tests)

three_counts : (w : List ℕ) → count_of 1 w + count_of 2 w + count_of 3 w ≤ length w
three_counts [] = omega arith
three_counts (a ∷ w) = omega (arith, three_counts w, once_each a, count_of-cons 1 a w, count_of-cons 2 a w, count_of-cons 3 a w)

odd_places : (w : List ℕ) → length (at_odd_places w) ≡ (length w + 1) / 2
odd_places [] = refl
odd_places (a ∷ []) = refl
odd_places (a ∷ (b ∷ w)) = omega (arith, odd_places w)

even_places : (w : List ℕ) → length (at_even_places w) ≡ length w / 2
even_places [] = refl
even_places (a ∷ []) = refl
even_places (a ∷ (b ∷ w)) = omega (arith, even_places w)

-- at odd and at even places of what follows
odd_sum : (q : List ℕ) → count_of 1 (at_odd_places q) + count_of 2 (at_odd_places q) + count_of 3 (at_odd_places q) ≤ (length q + 1) / 2
odd_sum q = omega (arith, three_counts (at_odd_places q), odd_places q)

even_sum : (q : List ℕ) → count_of 1 (at_even_places q) + count_of 2 (at_even_places q) + count_of 3 (at_even_places q) ≤ length q / 2
even_sum q = omega (arith, three_counts (at_even_places q), even_places q)

-- What is ahead on one side, over the three letters, as far as the rest makes up for it. The counts of a letter on the two sides are o and e in the
-- prefix, and s and t in the rest.
made_up : (odd even : List ℕ) (s t : ℕ → ℕ) → ((x : ℕ) → IsLetter x → slice_index odd x + s x ≡ slice_index even x + t x)
    → (excess odd even ≤ t 1 + t 2 + t 3) × (excess even odd ≤ s 1 + s 2 + s 3)
made_up odd even s t same =
    let one = same 1 (omega arith, omega arith) in
    let two = same 2 (omega arith, omega arith) in
    let three = same 3 (omega arith, omega arith) in
    (omega (arith, one, two, three), omega (arith, one, two, three))

-- the counts of a letter in the two parts of a stable word
same_even : (p q odd even : List ℕ) → AreCounts p odd even → length p % 2 ≡ 0
    → ((x : ℕ) → IsLetter x → count_of x (at_odd_places (p ++ q)) ≡ count_of x (at_even_places (p ++ q)))
    → (x : ℕ) → IsLetter x → slice_index odd x + count_of x (at_odd_places q) ≡ slice_index even x + count_of x (at_even_places q)
same_even p q odd even are h stable x letter =
    let both = counts_even x p q h in
    omega (arith, are.at_odd x letter, are.at_even x letter, stable x letter, both.0, both.1)

same_odd : (p q odd even : List ℕ) → AreCounts p odd even → length p % 2 ≡ 1
    → ((x : ℕ) → IsLetter x → count_of x (at_odd_places (p ++ q)) ≡ count_of x (at_even_places (p ++ q)))
    → (x : ℕ) → IsLetter x → slice_index odd x + count_of x (at_even_places q) ≡ slice_index even x + count_of x (at_odd_places q)
same_odd p q odd even are h stable x letter =
    let both = counts_odd x p q h in
    omega (arith, are.at_odd x letter, are.at_even x letter, stable x letter, both.0, both.1)

-- in a word that is searched for, the odd places of a prefix are ahead by no more than there are even places left
fits : (n : ℕ) (p q odd even : List ℕ) → AreCounts p odd even → IsSearched n (p ++ q)
    → excess odd even ≤ n / 2 - length p / 2
fits n p q odd even are is =
    let long : length p + length q ≡ n = sym (length-append p q) ∙ is.count in
    let whole : n % 2 ≡ 0 = ap (λ m. m % 2) (sym is.count) ∙ is.is.is_word.even_length.even in
    let at_odd = odd_sum q in
    let at_even = even_sum q in
    elim (cases_lt (length p % 2) 1) [
      | inl low ↦
          let h : length p % 2 ≡ 0 = omega arith in
          let up = made_up odd even (λ x. count_of x (at_odd_places q)) (λ x. count_of x (at_even_places q)) (same_even p q odd even are h is.is.stable) in
          omega (arith, up.0, at_even, h, long, whole)
      | inr high ↦
          let h : length p % 2 ≡ 1 = omega arith in
          let up = made_up odd even (λ x. count_of x (at_even_places q)) (λ x. count_of x (at_odd_places q)) (same_odd p q odd even are h is.is.stable) in
          omega (arith, up.0, at_odd, h, long, whole)
    ]

pub left_by_odd : (n : ℕ) (p odd even : List ℕ) → AreCounts p odd even → n / 2 - length p / 2 < excess odd even → IsLeft n p
left_by_odd n p odd even are over w is prefix =
    let fit = fits n p prefix.0 odd even are (subst (IsSearched n) prefix.1 is) in
    omega (arith, fit, over)

-- no letters
pub counts_none : (odd even : List ℕ) → ((x : ℕ) → IsLetter x → slice_index odd x ≡ 0) → ((x : ℕ) → IsLetter x → slice_index even x ≡ 0) → AreCounts [] odd even
counts_none odd even none also = record { at_odd = none; at_even = also }

-- one more letter after an even number
pub counts_more_odd : (p odd even more : List ℕ) (y : ℕ) → length p % 2 ≡ 0
    → ((x : ℕ) → IsLetter x → slice_index more x ≡ slice_index odd x + count_of x (y ∷ [])) → AreCounts p odd even → AreCounts (p ++ y ∷ []) more even
counts_more_odd p odd even more y h next are = record {
  at_odd = λ x letter. next x letter ∙ ap (λ n. n + count_of x (y ∷ [])) (are.at_odd x letter) ∙ sym (counts_even x p (y ∷ []) h).0;
  at_even = λ x letter. let both = counts_even x p (y ∷ []) h in omega (arith, are.at_even x letter, both.1);
}

-- and after an odd one
pub counts_more_even : (p odd even more : List ℕ) (y : ℕ) → length p % 2 ≡ 1
    → ((x : ℕ) → IsLetter x → slice_index more x ≡ slice_index even x + count_of x (y ∷ [])) → AreCounts p odd even → AreCounts (p ++ y ∷ []) odd more
counts_more_even p odd even more y h next are = record {
  at_odd = λ x letter. let both = counts_odd x p (y ∷ []) h in omega (arith, are.at_odd x letter, both.0);
  at_even = λ x letter. next x letter ∙ ap (λ n. n + count_of x (y ∷ [])) (are.at_even x letter) ∙ sym (counts_odd x p (y ∷ []) h).1;
}

-- so the counts are few
pub counts_few : (p odd even : List ℕ) (x : ℕ) → IsLetter x → AreCounts p odd even → (slice_index odd x ≤ length p) × (slice_index even x ≤ length p)
counts_few p odd even x letter are = (
  omega (arith, are.at_odd x letter, count_at_most x (at_odd_places p), odd_places p),
  omega (arith, are.at_even x letter, count_at_most x (at_even_places p), even_places p),
)
