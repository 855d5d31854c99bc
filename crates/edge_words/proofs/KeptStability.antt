-- Rotations and reversals keep stability.
use Rattle.std.proofs.Common.{◌≡◌, ℕ, ◌%◌, List, [], ◌∷◌, ◌++◌, reverse, length, take, drop, inl, inr, sym, ◌∙◌, ap, subst, refl, arith, length-append}
use Rattle.std.proofs.lemmas.Bool.{cases_lt}
use Rattle.std.proofs.lemmas.Grind.{reverse_onto}
use Rattle.std.proofs.lemmas.List.{length-reverse, take-append-drop}
use Rattle.edge_words.specs.Canonical.{IsRotation, IsInBracelet, BraceletKeepsStability}
use Rattle.edge_words.specs.Stable.{at_odd_places, at_even_places, count_of, IsBalanced}
use Rattle.edge_words.proofs.Balance.{count_of-cons, counts_even, counts_odd}
use Rattle.edge_words.proofs.Bracelet.{bracelet_symmetric, length_in_bracelet}

-- two parts may change places
balanced_swap : (x : ℕ) (p q : List ℕ) → length (p ++ q) % 2 ≡ 0 → IsBalanced x (p ++ q) → IsBalanced x (q ++ p)
balanced_swap x p q h balanced =
    let len = length-append p q in
    elim (cases_lt (length p % 2) 1) [
      | inl even ↦ let one = counts_even x p q (omega arith) in let other = counts_even x q p (omega arith) in omega (arith, one, other, balanced)
      | inr odd ↦ let one = counts_odd x p q (omega arith) in let other = counts_odd x q p (omega arith) in omega (arith, one, other, balanced)
    ]

-- a rotation is as stable as the word
rotation_balanced : (x : ℕ) (w v : List ℕ) → length w % 2 ≡ 0 → IsRotation w v → IsBalanced x w → IsBalanced x v
rotation_balanced x w v h turn balanced =
    let parts = take-append-drop turn.0 w in
    subst (IsBalanced x) (sym turn.2) (balanced_swap x (take turn.0 w) (drop turn.0 w) (ap (λ u. length u % 2) parts ∙ h)
    (subst (IsBalanced x) (sym parts) balanced))

-- read backwards, odd and even places change
counts_backwards : (x : ℕ) (w : List ℕ) → length w % 2 ≡ 0 → (count_of x (at_odd_places (reverse w)) ≡ count_of x (at_even_places w))
    × (count_of x (at_even_places (reverse w)) ≡ count_of x (at_odd_places w))
counts_backwards x [] h = (refl, refl)
counts_backwards x (a ∷ []) h = absurd (omega arith)
counts_backwards x (a ∷ (b ∷ w)) h =
    let l : length w % 2 ≡ 0 = omega arith in
    let both = counts_backwards x w l in
    let parts = counts_even x (reverse w) (b ∷ (a ∷ [])) (ap (λ n. n % 2) (length-reverse w) ∙ l) in
    let turned : reverse (a ∷ (b ∷ w)) ≡ reverse w ++ (b ∷ (a ∷ [])) = reverse_onto w b (a ∷ []) in (
      ap (λ u. count_of x (at_odd_places u)) turned ∙ parts.0 ∙ omega (arith, both, count_of-cons x b [], count_of-cons x b (at_even_places w)),
      ap (λ u. count_of x (at_even_places u)) turned ∙ parts.1 ∙ omega (arith, both, count_of-cons x a [], count_of-cons x a (at_odd_places w)),
    )

reverse_balanced : (x : ℕ) (w : List ℕ) → length w % 2 ≡ 0 → IsBalanced x w → IsBalanced x (reverse w)
reverse_balanced x w h balanced = let both = counts_backwards x w h in both.0 ∙ sym balanced ∙ sym both.1

-- a list is as stable as each of its bracelet
pub bracelet_balanced : (x : ℕ) (w v : List ℕ) → length w % 2 ≡ 0 → IsInBracelet w v → IsBalanced x w → IsBalanced x v
bracelet_balanced x w v h (inl turn) balanced = rotation_balanced x w v h turn balanced
bracelet_balanced x w v h (inr turn) balanced = rotation_balanced x (reverse w) v (ap (λ n. n % 2) (length-reverse w) ∙ h) turn
    (reverse_balanced x w h balanced)

pub bracelet_keeps_stability : BraceletKeepsStability
bracelet_keeps_stability w v is h =
    let even : length w % 2 ≡ 0 = is.even_length.even in
    let even' : length v % 2 ≡ 0 = ap (λ n. n % 2) (length_in_bracelet w v h) ∙ even in (
      λ stable x letter. bracelet_balanced x w v even h (stable x letter),
      λ stable x letter. bracelet_balanced x v w even' (bracelet_symmetric w v h) (stable x letter),
    )
