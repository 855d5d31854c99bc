-- Lists of one entry for each number below a bound.
use Rattle.std.proofs.Common.{◌≡◌, ℕ, ◌+◌, List, [], ◌∷◌, ◌++◌, length, length-append, slice_index_or, sym, ap, subst, ◌∙◌, inl, inr, arith}
use Rattle.std.proofs.Math.ListN.{get_or-append}
use Rattle.std.proofs.Math.Seq.{get_or-append_seam}
use Rattle.std.proofs.lemmas.Bool.{cases_lt}
use Rattle.defining_functions.specs.Tables.{IsTable}

-- one entry more
pub IsTable-snoc : {A : Type 0} (P : ℕ → A → Type 0) (n : ℕ) (xs : List A) (x : A) → IsTable P n xs → P n x → IsTable P (n + 1) (xs ++ x ∷ [])
IsTable-snoc {A} P n xs x h is = record {
  count = omega (arith, h.count, length-append xs (x ∷ []));
  each = λ i z below. elim (cases_lt i n) [
    | inl earlier ↦ subst (P i) (sym (get_or-append xs (x ∷ []) z i (omega (arith, earlier, h.count)))) (h.each i z earlier)
    | inr last ↦
        let i_is : n ≡ i = omega (arith, last, below) in
        let i_is_end : i ≡ length xs = omega (arith, last, below, h.count) in
        let here : slice_index_or (xs ++ x ∷ []) i z ≡ x = ap (λ j. slice_index_or (xs ++ x ∷ []) j z) i_is_end ∙ get_or-append_seam xs x [] z in
        subst (P i) (sym here) (subst (λ j. P j x) i_is is)
  ];
}

pub IsTable-nil : {A : Type 0} (P : ℕ → A → Type 0) → IsTable P 0 []
IsTable-nil P = record { count = omega arith; each = λ i x below. absurd (omega (arith, below)) }

pub IsTable-weaker : {A : Type 0} (P Q : ℕ → A → Type 0) (n : ℕ) (xs : List A) → ((i : ℕ) (x : A) → P i x → Q i x) → IsTable P n xs → IsTable Q n xs
IsTable-weaker P Q n xs weaker h = record { count = h.count; each = λ i x below. weaker i (slice_index_or xs i x) (h.each i x below) }
