-- Decimal texts that are made from their last digit on.
use Rattle.std.proofs.Common.{◌≡◌, ℕ, ◌+◌, ◌/◌, ◌%◌, ◌^◌, ◌<◌, ◌≤◌, List, [], ◌∷◌, ◌++◌, length, ap, ◌∙◌, append_assoc, length-append, arith}
use Rattle.std.proofs.lemmas.Fmt.{decimal_digit, decimal_step, decimal_nonempty, length-decimal-le}
use Rattle.std.specs.Fmt.{decimal}

-- there is room for one more digit in 20 bytes
pub digits_fit : (n rest : ℕ) (text : List ℕ) → n < 2 ^ 64 → rest < 2 ^ 64 → decimal n ≡ decimal rest ++ text → length text < 20
digits_fit n rest text small smaller is =
    let size : length (decimal n) ≤ 20 = length-decimal-le 20 n (omega arith) (omega arith) small in
    omega (arith, size, decimal_nonempty rest smaller, ap length is, length-append (decimal rest) text)

-- one digit more, before the others
pub next_digit : (n rest : ℕ) (text : List ℕ) → 10 ≤ rest → rest < 2 ^ 64 → decimal n ≡ decimal rest ++ text
    → decimal n ≡ decimal (rest / 10) ++ (48 + rest % 10) ∷ text
next_digit n rest text more small is =
    is ∙ ap (λ (digits : List ℕ). digits ++ text) (decimal_step rest more small) ∙ append_assoc (decimal (rest / 10)) ((48 + rest % 10) ∷ []) text

-- the first digit
pub first_digit : (n rest : ℕ) (text : List ℕ) → rest < 10 → decimal n ≡ decimal rest ++ text → decimal n ≡ (48 + rest) ∷ text
first_digit n rest text one is = is ∙ ap (λ (digits : List ℕ). digits ++ text) (decimal_digit rest one)
