-- What holds of all elements of a list, of each by its number from 1 on, and of one that is found.
use Rattle.std.proofs.Common.{◌≡◌, ◌∙◌, ap, subst, ℕ, ◌+◌, ◌-◌, ◌<◌, ◌≤◌, List, length, slice_index_or, below_more, arith}
use Rattle.std.specs.Prelude.{All, Any}
use Rattle.std.proofs.Math.Nat.{add-sub_cancel}
use Rattle.std.proofs.lemmas.List.{get_or_default}

-- the element of the number k + 1 stands at the index k
at_number : {X : Type 0} (xs : List X) (e : X) (k : ℕ) (d : X) → k < length xs → slice_index_or xs (k + 1 - 1) e ≡ slice_index_or xs k d
at_number xs e k d lt = ap (λ t. slice_index_or xs t e) (add-sub_cancel k 1) ∙ get_or_default xs k e d lt

-- what holds of each number holds of all elements
pub all_by_number : {X : Type 0} (P : X → Type 0) (xs : List X) (e : X) → ((m : ℕ) → 1 ≤ m → m ≤ length xs → P (slice_index_or xs (m - 1) e)) → All P xs
all_by_number P xs e h k d lt = subst P (at_number xs e k d lt) (h (k + 1) (omega arith) (omega arith))

-- and back
pub by_number : {X : Type 0} (P : X → Type 0) (xs : List X) (e : X) → All P xs → (m : ℕ) → 1 ≤ m → m ≤ length xs → P (slice_index_or xs (m - 1) e)
by_number P xs e h m low high = h (m - 1) e (omega arith)

-- what holds of all elements holds of one that is found
pub at_found : {X : Type 0} (P Q : X → Type 0) (xs : List X) → All P xs → (found : Any Q xs) → P found.1
at_found P Q xs all found = subst P found.3 (all found.0 found.1 found.2)

-- what holds of the elements before an element and of it holds of those up to it
pub all_behind : {X : Type 0} (P : X → Type 0) (xs : List X) (k : ℕ) (x : X) → k < length xs → x ≡ slice_index_or xs k x
    → ((j : ℕ) (d : X) → j < k → P (slice_index_or xs j d)) → P x → (j : ℕ) (d : X) → j < k + 1 → P (slice_index_or xs j d)
all_behind P xs k x within is before here j d less =
    below_more (λ i. P (slice_index_or xs i d)) k (λ i lt. before i d lt) (subst P (is ∙ get_or_default xs k x d within) here) j less
