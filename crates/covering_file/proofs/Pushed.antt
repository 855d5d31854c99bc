-- One more element at the end.
use Rattle.std.proofs.Common.{◌≡◌, ◌+◌, true, List, [], ◌∷◌, ◌++◌, All, length, Result, Ok, sym, ap, ◌∙◌, subst, length-append, if◌then◌else◌}
use Rattle.std.specs.Result.{is_ok}
use Rattle.std.proofs.lemmas.List.Elements.{All-append, All-nil, All-cons}

-- a push that succeeded, seen by another result
pub pushed : {A T U E F : Type 0} (old new : List A) (x : A) (pushing : Result T E) (seen : Result U F) (value : U)
    → new ≡ (if is_ok pushing then old ++ x ∷ [] else old) → is_ok seen ≡ is_ok pushing → seen ≡ Ok value → new ≡ old ++ x ∷ []
pushed old new x pushing seen value is same succeeded =
    let succeeds : is_ok pushing ≡ true = sym same ∙ ap is_ok succeeded in
    is ∙ ap (λ b. if b then old ++ x ∷ [] else old) succeeds

pub all_more : {A : Type 0} (P : A → Type 0) (old new : List A) (x : A) → new ≡ old ++ x ∷ [] → All P old → P x → All P new
all_more P old new x is all here = subst (All P) (sym is) (All-append P old (x ∷ []) all (All-cons P x [] here (All-nil P)))

pub length_more : {A : Type 0} (old new : List A) (x : A) → new ≡ old ++ x ∷ [] → length new ≡ length old + 1
length_more old new x is = ap length is ∙ length-append old (x ∷ [])
