-- What calls that write one piece after the other leave written.
use Rattle.std.proofs.Common.{◌≡◌, ℕ, suc, ◌+◌, ◌<◌, ◌≤◌, List, ◌∷◌, ◌++◌, length, take, drop, get_or, Ok, Err, IsErr, sym, ap, ◌∙◌, subst, arith}
use Rattle.std.proofs.Common.{length-append, take-append-drop, drop-cons}
use Rattle.std.proofs.Math.Seq.{take-add, take-append-add}
use Rattle.std.proofs.lemmas.Grind.{flat_map-append}
use Rattle.std.proofs.lemmas.List.{take-append-le}
use Rattle.std.proofs.KnownBytes.{Appends-trans}
use Rattle.std.specs.Io.KnownBytes.{Appends}
use Rattle.std.specs.List.{flat_map}
use Rattle.std.specs.declared.option.Option.{Option}
use Rattle.std.specs.declared.result.Result.{Result}
use Rattle.mcb_ends.specs.Bytes.{AppendsPrefix, Writes}

-- n bytes of a text, and then m of those behind them
pub Appends-take : (a b c : Option (List ℕ)) (text : List ℕ) (n m : ℕ) → Appends a b (take n text) → Appends b c (take m (drop n text))
    → Appends a c (take (n + m) text)
Appends-take a b c text n m first second = rw take-add (Appends-trans a b c (take n text) (take m (drop n text)) first second)

-- a whole text, and then a prefix of another
pub AppendsPrefix-then : (a b c : Option (List ℕ)) (xs ys : List ℕ) → Appends a b xs → AppendsPrefix b c ys → AppendsPrefix a c (xs ++ ys)
AppendsPrefix-then a b c xs ys first second =
    let within : length xs + second.0 ≤ length (xs ++ ys) = omega (arith, second.1, length-append xs ys) in
    (length xs + second.0, within, rw take-append-add (Appends-trans a b c xs (take second.0 ys) first second.2))

-- a prefix of a text is a prefix of that text with more behind it
pub AppendsPrefix-begun : (a b : Option (List ℕ)) (xs ys : List ℕ) → AppendsPrefix a b xs → AppendsPrefix a b (xs ++ ys)
AppendsPrefix-begun a b xs ys begun =
    let within : begun.0 ≤ length (xs ++ ys) = omega (arith, begun.1, length-append xs ys) in
    (begun.0, within, subst (λ (text : List ℕ). Appends a b text) (sym (take-append-le begun.0 xs ys begun.1)) begun.2)

-- a call that writes behind a whole text
pub Writes-then : {T E : Type 0} (a b c : Option (List ℕ)) (result : Result T E) (xs ys : List ℕ) → Appends a b xs → Writes b c result ys
    → Writes a c result (xs ++ ys)
Writes-then a b c (Ok value) xs ys first second = Appends-trans a b c xs ys first second
Writes-then a b c (Err error) xs ys first second = AppendsPrefix-then a b c xs ys first second

-- a failure after a prefix
pub Writes-failed : {T E : Type 0} (a b : Option (List ℕ)) (result : Result T E) (text : List ℕ) → IsErr result → AppendsPrefix a b text
    → Writes a b result text
Writes-failed a b (Ok value) text failed begun = cc
Writes-failed a b (Err error) text failed begun = begun

-- the texts of the elements up to the k-th, of that one, and of those behind it
flat_map-split : {A : Type 0} (f : A → List ℕ) (xs : List A) (k : ℕ) (d : A) → k < length xs
    → flat_map f xs ≡ flat_map f (take k xs) ++ (f (get_or xs k d) ++ flat_map f (drop (suc k) xs))
flat_map-split {A} f xs k d within =
    ap (λ (ys : List A). flat_map f ys) (sym (take-append-drop k xs) ∙ ap (λ (rest : List A). take k xs ++ rest) (drop-cons xs k d within))
    ∙ flat_map-append f (take k xs) (get_or xs k d ∷ drop (suc k) xs)

-- a prefix of the text of the k-th element, behind the texts of those before it
pub AppendsPrefix-flat_map : {A : Type 0} (f : A → List ℕ) (a b c : Option (List ℕ)) (xs : List A) (k : ℕ) (d : A) → k < length xs
    → Appends a b (flat_map f (take k xs)) → AppendsPrefix b c (f (get_or xs k d)) → AppendsPrefix a c (flat_map f xs)
AppendsPrefix-flat_map f a b c xs k d within first second =
    let behind = flat_map f (drop (suc k) xs) in
    let begun : AppendsPrefix b c (f (get_or xs k d) ++ behind) = AppendsPrefix-begun b c (f (get_or xs k d)) behind second in
    subst (λ (text : List ℕ). AppendsPrefix a c text) (sym (flat_map-split f xs k d within))
    (AppendsPrefix-then a b c (flat_map f (take k xs)) (f (get_or xs k d) ++ behind) first begun)
