-- Numbers of the command line.
use Rattle.std.proofs.Common.{◌≡◌, ◌≢◌, ◌↔◌, ℕ, ◌≤◌, ◌<◌, ◌^◌, Bool, true, false, ◌&&◌, if◌then◌else◌, nat_le, List, Option, Some, None, IsNone, refl}
use Rattle.std.proofs.Common.{ap, ◌∙◌, arith, decimal}
use Rattle.std.specs.Str.{bytes_eq}
use Rattle.std.specs.Str.Parse.{digits_value}
use Rattle.std.proofs.lemmas.Bool.{leb-true, le-leb}
use Rattle.std.proofs.lemmas.Fmt.{decimal_is_IsNumeral}
use Rattle.std.proofs.lemmas.Slice.Eq.{bytes_eq-Decides}
use Rattle.billiards_cli.specs.Arguments.{number_up_to}

no_number : (v : ℕ) (low same : Bool) → (low ≡ true → same ≡ true → ⊥) → None ≡ (if low && same then Some v else None)
no_number v true true fails = absurd (fails refl refl)
no_number v true false fails = refl
no_number v false same fails = refl

-- what is read within the bound is the number of the text
pub read_is : (bound : ℕ) (text : List ℕ) (result : Option ℕ) → bound < 2 ^ 32
    → ((n : ℕ) → (result ≡ Some n) ↔ ((text ≡ decimal n) × (n ≤ bound))) → (IsNone result ↔ ((n : ℕ) → n ≤ bound → text ≢ decimal n))
    → result ≡ number_up_to bound text
read_is bound text (Some n) fits some none =
    let given = (some n).0 refl in
    let small : n < 2 ^ 64 = omega (arith, given.1) in
    let value : digits_value 10 text ≡ n = ap (λ (xs : List ℕ). digits_value 10 xs) given.0 ∙ (decimal_is_IsNumeral n small).1 in
    let same : bytes_eq text (decimal n) ≡ true = (bytes_eq-Decides text (decimal n)).1 given.0 in
    let low : nat_le n bound ≡ true = le-leb n bound given.1 in
    rw (value, low, same)
read_is bound text None fits some none =
    let absent = none.0 refl in
    let v = digits_value 10 text in
    no_number v (nat_le v bound) (bytes_eq text (decimal v)) (λ low same. absent v (leb-true v bound low) ((bytes_eq-Decides text (decimal v)).0 same))
