-- How often a letter stands at odd and at even places of the first letters.
use Rattle.std.proofs.Common.{◌≡◌, ◌≢◌, ℕ, ◌+◌, ◌%◌, ◌<◌, ◌≤◌, ◌==◌, List, [], ◌∷◌, ◌++◌, length, get_or, take, cond, inl, inr, zero-add, add-zero}
use Rattle.std.proofs.Common.{subst, ◌∙◌, ap, arith}
use Rattle.std.proofs.lemmas.Bool.{cases_lt}
use Rattle.std.proofs.lemmas.Bool.Decides.{nat_tests}
use Rattle.std.proofs.lemmas.List.{take_all, take_more, length-take-le}
use Rattle.std.proofs.lemmas.List.Sums.{sum_by-cons, sum_by-append}
use Rattle.edge_words.proofs.Places.{at_odd_places-append_even, at_even_places-append_even, at_odd_places-append_odd, at_even_places-append_odd}
use Rattle.edge_words.specs.Stable.{at_odd_places, at_even_places, count_of, IsBalanced, IsStable}

-- 1 for the letter itself, and 0 for another
abbrev pub once : ℕ → ℕ → ℕ
once x y = cond (y == x) 1 0

-- one more element at the front
pub count_of-cons : (x a : ℕ) (w : List ℕ) → count_of x (a ∷ w) ≡ once x a + count_of x w
count_of-cons x a w = sum_by-cons (λ y. once x y) a w

-- a count is at most the length
pub count_at_most : (x : ℕ) (w : List ℕ) → count_of x w ≤ length w
count_at_most x [] = omega arith
count_at_most x (a ∷ w) = let one : once x a ≤ 1 = grind (arith, nat_tests) in omega (arith, count_at_most x w, one, count_of-cons x a w)

-- counts of two parts add
pub count_of-append : (x : ℕ) (xs ys : List ℕ) → count_of x (xs ++ ys) ≡ count_of x xs + count_of x ys
count_of-append x xs ys = sum_by-append (λ y. cond (y == x) 1 0) xs ys

-- how often a letter stands at the odd and at the even places of two joined parts, the first with an even number of letters
pub counts_even : (x : ℕ) (p q : List ℕ) → length p % 2 ≡ 0 → (count_of x (at_odd_places (p ++ q))
    ≡ count_of x (at_odd_places p) + count_of x (at_odd_places q)) × (count_of x (at_even_places (p ++ q))
    ≡ count_of x (at_even_places p) + count_of x (at_even_places q))
counts_even x p q h = (
  ap (count_of x) (at_odd_places-append_even p q h) ∙ count_of-append x (at_odd_places p) (at_odd_places q),
  ap (count_of x) (at_even_places-append_even p q h) ∙ count_of-append x (at_even_places p) (at_even_places q),
)

-- the same, the first with an odd number of letters
pub counts_odd : (x : ℕ) (p q : List ℕ) → length p % 2 ≡ 1 → (count_of x (at_odd_places (p ++ q))
    ≡ count_of x (at_odd_places p) + count_of x (at_even_places q)) × (count_of x (at_even_places (p ++ q))
    ≡ count_of x (at_even_places p) + count_of x (at_odd_places q))
counts_odd x p q h = (
  ap (count_of x) (at_odd_places-append_odd p q h) ∙ count_of-append x (at_odd_places p) (at_even_places q),
  ap (count_of x) (at_even_places-append_odd p q h) ∙ count_of-append x (at_even_places p) (at_odd_places q),
)

-- how often x stands at the odd places among the first i letters
abbrev pub odd_count : ℕ → List ℕ → ℕ → ℕ
odd_count x w i = count_of x (at_odd_places (take i w))

-- the same at the even places
abbrev pub even_count : ℕ → List ℕ → ℕ → ℕ
even_count x w i = count_of x (at_even_places (take i w))

-- one more letter at an odd place
pub step_at_odd : (x : ℕ) (w : List ℕ) (i : ℕ) → i < length w → i % 2 ≡ 0 → (odd_count x w (i + 1) ≡ odd_count x w i + once x (get_or w i 0))
    × (even_count x w (i + 1) ≡ even_count x w i)
step_at_odd x w i h even =
    let y = get_or w i 0 in
    let more = take_more w i 0 h in
    let len : length (take i w) % 2 ≡ 0 = ap (λ n. n % 2) (length-take-le i w (omega arith)) ∙ even in
    let both = counts_even x (take i w) (y ∷ []) len in (
      ap (λ ys. count_of x (at_odd_places ys)) more ∙ both.0 ∙ ap (λ n. odd_count x w i + n) (zero-add (once x y)),
      ap (λ ys. count_of x (at_even_places ys)) more ∙ both.1 ∙ add-zero (even_count x w i),
    )

-- one more letter at an even place
pub step_at_even : (x : ℕ) (w : List ℕ) (i : ℕ) → i < length w → i % 2 ≡ 1 → (odd_count x w (i + 1) ≡ odd_count x w i)
    × (even_count x w (i + 1) ≡ even_count x w i + once x (get_or w i 0))
step_at_even x w i h odd =
    let y = get_or w i 0 in
    let more = take_more w i 0 h in
    let len : length (take i w) % 2 ≡ 1 = ap (λ n. n % 2) (length-take-le i w (omega arith)) ∙ odd in
    let both = counts_odd x (take i w) (y ∷ []) len in (
      ap (λ ys. count_of x (at_odd_places ys)) more ∙ both.0 ∙ add-zero (odd_count x w i),
      ap (λ ys. count_of x (at_even_places ys)) more ∙ both.1 ∙ ap (λ n. even_count x w i + n) (zero-add (once x y)),
    )

-- the counts among the first i letters
pub record IsCounted (x : ℕ) (w : List ℕ) (i at_odd at_even : ℕ) : Type 0 where
  pub odd : at_odd ≡ odd_count x w i
  pub even : at_even ≡ even_count x w i
  pub odd_bound : at_odd ≤ i
  pub even_bound : at_even ≤ i

-- another letter leaves both counts
pub another_letter : (x : ℕ) (w : List ℕ) (i at_odd at_even : ℕ) → i < length w → get_or w i 0 ≢ x → IsCounted x w i at_odd at_even
    → IsCounted x w (i + 1) at_odd at_even
another_letter x w i at_odd at_even h other is =
    let none : once x (get_or w i 0) ≡ 0 = grind (arith, nat_tests) in
    elim (cases_lt (i % 2) 1) [
      | inl low ↦
          let s = step_at_odd x w i h (omega arith) in
          record { odd = omega (arith, s, none, is); even = omega (arith, s, none, is); odd_bound = omega (arith, is); even_bound = omega (arith, is) }
      | inr high ↦
          let s = step_at_even x w i h (omega arith) in
          record { odd = omega (arith, s, none, is); even = omega (arith, s, none, is); odd_bound = omega (arith, is); even_bound = omega (arith, is) }
    ]

-- the letter at an odd place
pub found_at_odd : (x : ℕ) (w : List ℕ) (i at_odd at_even : ℕ) → i < length w → get_or w i 0 ≡ x → i % 2 ≡ 0 → IsCounted x w i at_odd at_even
    → IsCounted x w (i + 1) (at_odd + 1) at_even
found_at_odd x w i at_odd at_even h found even is =
    let one : once x (get_or w i 0) ≡ 1 = grind (arith, nat_tests) in
    let s = step_at_odd x w i h even in
    record { odd = omega (arith, s, one, is); even = omega (arith, s, is); odd_bound = omega (arith, is); even_bound = omega (arith, is) }

-- the letter at an even place
pub found_at_even : (x : ℕ) (w : List ℕ) (i at_odd at_even : ℕ) → i < length w → get_or w i 0 ≡ x → i % 2 ≢ 0 → IsCounted x w i at_odd at_even
    → IsCounted x w (i + 1) at_odd (at_even + 1)
found_at_even x w i at_odd at_even h found odd is =
    let one : once x (get_or w i 0) ≡ 1 = grind (arith, nat_tests) in
    let s = step_at_even x w i h (omega arith) in
    record { odd = omega (arith, s, is); even = omega (arith, s, one, is); odd_bound = omega (arith, is); even_bound = omega (arith, is) }

-- the counts among all letters
pub all_counted : (x : ℕ) (w : List ℕ) (i at_odd at_even : ℕ) → length w ≤ i → IsCounted x w i at_odd at_even
    → (at_odd ≡ count_of x (at_odd_places w)) × (at_even ≡ count_of x (at_even_places w))
all_counted x w i at_odd at_even h is =
    (is.odd ∙ ap (λ ys. count_of x (at_odd_places ys)) (take_all i w h), is.even ∙ ap (λ ys. count_of x (at_even_places ys)) (take_all i w h))

-- a list in which each of the three letters is balanced
pub stable_from_letters : (w : List ℕ) → IsBalanced 1 w → IsBalanced 2 w → IsBalanced 3 w → IsStable w
stable_from_letters w one two three x letter =
    elim (cases_lt x 2) [
      | inl low ↦ let e : 1 ≡ x = omega arith in subst (λ y. IsBalanced y w) e one
      | inr above ↦
          elim (cases_lt x 3) [
            | inl middle ↦ let e : 2 ≡ x = omega arith in subst (λ y. IsBalanced y w) e two
            | inr high ↦ let e : 3 ≡ x = omega arith in subst (λ y. IsBalanced y w) e three
          ]
    ]
