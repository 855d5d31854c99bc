-- Bytes in which a byte is sought, and not found.
use Rattle.std.proofs.Common.{◌≡◌, ◌≢◌, ℕ, ◌≤◌, Bool, true, false, not, cond, List, length, get_or, Some, None, ◌==◌, nat_lt, refl, arith, All}
use Rattle.std.proofs.lemmas.Bool.{eq-eqb, ltb-false}
use Rattle.std.proofs.lemmas.List.Sums.{prefix_len_passes}
use Rattle.std.specs.List.{position, position_or_len}

-- a choice that gives nothing chose by false
chose_false : (b : Bool) (n : ℕ) → cond b (Some n) None ≡ None → b ≡ false
chose_false true n is = cc
chose_false false n is = refl

-- none of the bytes is the sought one
pub no_place : (sought : ℕ) (bytes : List ℕ) → position (λ byte. byte == sought) bytes ≡ None → All (λ byte. byte ≢ sought) bytes
no_place sought bytes is k d within at =
    let place = position_or_len (λ (byte : ℕ). byte == sought) bytes in
    let late : length bytes ≤ place = ltb-false place (length bytes) (chose_false (nat_lt place (length bytes)) place is) in
    let passes = prefix_len_passes (λ (byte : ℕ). not (byte == sought)) bytes k d (omega arith) in
    let same : (get_or bytes k d == sought) ≡ true = eq-eqb (get_or bytes k d) sought at in
    let no = rw same at passes in
    cc
