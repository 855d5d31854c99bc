-- The words of a list as one goes on: which are not there, and how a union grows.
use Rattle.std.proofs.Common.{◌≡◌, ◌≢◌, ◌↔◌, inl, inr, refl, sym, ap, ◌∙◌, subst, ℕ, suc, ◌+◌, ◌-◌, ◌<◌, ◌≤◌, List, [], ◌∷◌, ◌++◌, length, take, drop, get_or, arith, length-append}
use Rattle.std.proofs.Common.{Bool, true, false, Option, Some, None}
use Rattle.std.specs.Option.{MatchOption, IsSome, is_some}
use Rattle.std.proofs.Math.Seq.{take-suc, split_at}
use Rattle.std.proofs.lemmas.Bool.{cases_lt}
use Rattle.std.proofs.lemmas.List.{get_or_default, length-take}
use Rattle.covering_file.specs.declared.TheConstants.{MAX_WORDS}
use Rattle.covering_file.specs.Faults.{word_at, IsListed}
use Rattle.cover_merge.specs.Rounds.{IsOneTooMany}
use Rattle.cover_merge.specs.Union.{Lists, IsUnion, IsNumberOf}

-- ---- the place of a word

-- none of the first words is this one
abbrev pub NoneBefore : List (List ℕ) → List ℕ → ℕ → Type 0
NoneBefore words w k = (j : ℕ) (d : List ℕ) → j < k → get_or words j d ≢ w

-- ---- a union

pub union_with_old : (words xs union : List (List ℕ)) (w : List ℕ) → IsUnion words xs union → Lists union w → IsUnion words (xs ++ w ∷ []) union
union_with_old words [] union w is lists = inl (subst (λ (ws : List (List ℕ)). Lists ws w) is lists, is)
union_with_old words (x ∷ xs) union w (inl old) lists = inl (old.0, union_with_old words xs union w old.1 lists)
union_with_old words (x ∷ xs) union w (inr new) lists = inr (new.0, union_with_old (words ++ x ∷ []) xs union w new.1 lists)

pub union_with_new : (words xs union : List (List ℕ)) (w : List ℕ) → IsUnion words xs union → ¬ (Lists union w)
    → IsUnion words (xs ++ w ∷ []) (union ++ w ∷ [])
union_with_new words [] union w is new =
    inr (λ lists. new (subst (λ (ws : List (List ℕ)). Lists ws w) (sym is) lists), ap (λ (ws : List (List ℕ)). ws ++ w ∷ []) is)
union_with_new words (x ∷ xs) union w (inl old) new = inl (old.0, union_with_new words xs union w old.1 new)
union_with_new words (x ∷ xs) union w (inr other) new = inr (other.0, union_with_new (words ++ x ∷ []) xs union w other.1 new)

-- ---- as the code has it

pub found_lists : (found : Option ℕ) (is_found : Bool) (words : List (List ℕ)) (w : List ℕ) → is_found ≡ is_some found
    → MatchOption found (¬ (Lists words w)) (IsNumberOf words w) → (is_found ≡ true) ↔ Lists words w
found_lists None is_found words w is none = ((λ yes'. let never : true ≡ false = sym yes' ∙ is in cc), (λ lists. absurd (none lists)))
found_lists (Some i) is_found words w is number = ((λ yes'. (i, number.listed, number.word)), (λ lists. is))

next_taken : (others : List (List ℕ)) (w : List ℕ) (k : ℕ) → k < length others → w ≡ get_or others k w → take (k + 1) others ≡ take k others ++ w ∷ []
next_taken others w k within at =
    let one : k + 1 ≡ suc k = omega arith in
    ap (λ (j : ℕ). take j others) one ∙ take-suc others k w within ∙ ap (λ (v : List ℕ). take k others ++ v ∷ []) (sym at)

pub next_is_old : (words others union : List (List ℕ)) (w : List ℕ) (k : ℕ) → k < length others → w ≡ get_or others k w
    → IsUnion words (take k others) union → Lists union w → IsUnion words (take (k + 1) others) union
next_is_old words others union w k within at is lists =
    subst (λ (xs : List (List ℕ)). IsUnion words xs union) (sym (next_taken others w k within at)) (union_with_old words (take k others) union w is lists)

pub next_is_new : (words others union : List (List ℕ)) (w : List ℕ) (k : ℕ) → k < length others → w ≡ get_or others k w
    → IsUnion words (take k others) union → ¬ (Lists union w) → IsUnion words (take (k + 1) others) (union ++ w ∷ [])
next_is_new words others union w k within at is new =
    subst (λ (xs : List (List ℕ)). IsUnion words xs (union ++ w ∷ [])) (sym (next_taken others w k within at))
    (union_with_new words (take k others) union w is new)

pub one_too_many : (words others union : List (List ℕ)) (w : List ℕ) (k : ℕ) → k < length others → w ≡ get_or others k w
    → IsUnion words (take k others) union → length union ≡ MAX_WORDS → ¬ (Lists union w) → IsOneTooMany words others k
one_too_many words others union w k within at is full new = record {
  first = take k others;
  word = w;
  more = drop (suc k) others;
  union = union;
  others_are = split_at others k w within ∙ ap (λ (v : List ℕ). take k others ++ v ∷ drop (suc k) others) (sym at);
  number = omega (arith, length-take k others, within);
  is_union = is;
  is_full = full;
  is_new = new;
}

pub number_is_found : (found : Option ℕ) (words others : List (List ℕ)) (w : List ℕ) (k : ℕ) → k < length others → w ≡ get_or others k w
    → ((i : ℕ) → IsListed others i → Lists words (word_at others i)) → MatchOption found (¬ (Lists words w)) (IsNumberOf words w) → IsSome found
number_is_found (Some i) words others w k within at listed found = refl
number_is_found None words others w k within at listed none =
    let place : k + 1 - 1 ≡ k = omega arith in
    let is : word_at others (k + 1) ≡ w = ap (λ (j : ℕ). get_or others j []) place ∙ get_or_default others k [] w within ∙ sym at in
    absurd (none (subst (Lists words) is (listed (k + 1) (omega arith, omega (arith, within)))))

-- a word that was not found
pub new_word : (is_found : Bool) (words union : List (List ℕ)) (w : List ℕ) → words ≡ union → (Lists words w → is_found ≡ true) → is_found ≡ false
    → ¬ (Lists union w)
new_word is_found words union w same finds none lists =
    let found : true ≡ false = sym (finds (subst (λ (ws : List (List ℕ)). Lists ws w) (sym same) lists)) ∙ none in
    cc

pub next_is_added : (words others old new : List (List ℕ)) (w copy : List ℕ) (k : ℕ) → k < length others → w ≡ get_or others k w
    → IsUnion words (take k others) old → ¬ (Lists old w) → copy ≡ w → new ≡ old ++ copy ∷ [] → IsUnion words (take (k + 1) others) new
next_is_added words others old new w copy k within at is fresh same more =
    subst (IsUnion words (take (k + 1) others)) (sym (more ∙ ap (λ (v : List ℕ). old ++ v ∷ []) same))
    (next_is_new words others old w k within at is fresh)

pub room_for_one : (old new : List (List ℕ)) (w : List ℕ) → length old ≤ MAX_WORDS → length old ≢ MAX_WORDS → new ≡ old ++ w ∷ [] → length new ≤ MAX_WORDS
room_for_one old new w few not_full more =
    elim (cases_lt (length old) MAX_WORDS) [
      | inl less ↦ omega (arith, less, ap length more, length-append old (w ∷ []))
      | inr full ↦ absurd (not_full (omega (arith, few, full)))
    ]
