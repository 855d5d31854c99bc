-- The numbers of a line: their digits hold no newline and no space, and tell the number.
use Rattle.std.proofs.Common.{◌≡◌, ◌≢◌, inl, inr, ℕ, zero, suc, ◌+◌, ◌/◌, ◌%◌, ◌<◌, ◌≤◌, ◌^◌, Bool, true, false, cond, List, [], ◌∷◌, length, decimal}
use Rattle.std.proofs.Common.{All, ◌==◌, nat_lt, sym, ap, ◌∙◌, arith}
use Rattle.std.proofs.lemmas.Bool.{cases_lt, ne_eqb}
use Rattle.std.proofs.lemmas.Fmt.{decimal_is_IsNumeral_wide, length-decimal-le}
use Rattle.std.proofs.lemmas.List.Elements.{All-nil, All-cons}
use Rattle.std.proofs.Math.Nat.{pow-suc, one-le-pow}
use Rattle.std.specs.Fmt.{digits, digits_onto, digit_glyph}
use Rattle.std.specs.Str.Parse.{digits_value}

-- what holds of both of two lists holds of the one that is chosen
chosen : (P : List ℕ → Type 0) (b : Bool) (xs ys : List ℕ) → P xs → P ys → P (cond b xs ys)
chosen P true xs ys p q = p
chosen P false xs ys p q = q

glyph_is_not : (byte d : ℕ) → byte < 48 → digit_glyph false d ≢ byte
glyph_is_not byte d low = one_of (nat_lt d 10)
  where
    one_of : (b : Bool) → cond b (48 + d) (87 + d) ≢ byte
    one_of true same = omega (arith, same)
    one_of false same = omega (arith, same)

digits_without : (byte k n : ℕ) (behind : List ℕ) → byte < 48 → All (λ b. b ≢ byte) behind → All (λ b. b ≢ byte) (digits_onto k 10 false n behind)
digits_without byte zero n behind low none = none
digits_without byte (suc k) n behind low none =
    let glyph = digit_glyph false (n % 10) in
    let more = All-cons (λ b. b ≢ byte) glyph behind (glyph_is_not byte (n % 10) low) none in
    chosen (All (λ b. b ≢ byte)) (n / 10 == 0) (glyph ∷ behind) (digits_onto k 10 false (n / 10) (glyph ∷ behind)) more
    (digits_without byte k (n / 10) (glyph ∷ behind) low more)

-- a byte below the digits stands in no number
pub decimal_without : (byte n : ℕ) → byte < 48 → All (λ b. b ≢ byte) (decimal n)
unfolding digits
decimal_without byte n low = digits_without byte 64 n [] low (All-nil (λ b. b ≢ byte))

-- the numbers of 32 bits have at most 10 digits
pub length-decimal : (n : ℕ) → n < 2 ^ 32 → length (decimal n) ≤ 10
length-decimal n low = length-decimal-le 10 n (omega arith) (omega arith) (omega arith)

-- where the number has more digits than are written, all of those are
digits_fill : (k n : ℕ) (behind : List ℕ) → 10 ^ k ≤ n → length (digits_onto (suc k) 10 false n behind) ≡ length behind + suc k
digits_fill zero n behind many =
    let glyph = digit_glyph false (n % 10) in
    let one : length (glyph ∷ behind) ≡ length behind + 1 = omega arith in
    chosen (λ (xs : List ℕ). length xs ≡ length behind + 1) (n / 10 == 0) (glyph ∷ behind) (glyph ∷ behind) one one
digits_fill (suc k) n behind many =
    let glyph = digit_glyph false (n % 10) in
    let rest : 10 ^ k ≤ n / 10 = omega (arith, many, pow-suc 10 k) in
    let some : n / 10 ≡ 0 → ⊥ = λ none. omega (arith, none, rest, one-le-pow k 10 (omega arith)) in
    ap (λ b. length (cond b (glyph ∷ behind) (digits_onto (suc k) 10 false (n / 10) (glyph ∷ behind)))) (ne_eqb (n / 10) 0 some)
    ∙ digits_fill k (n / 10) (glyph ∷ behind) rest ∙ omega arith

decimal-fill : (n : ℕ) → 10 ^ 64 ≤ n → length (decimal n) ≡ 64
unfolding digits
decimal-fill n many = digits_fill 63 n [] (omega arith)

-- A small number has its digits alone. A number of more than 64 digits may share them, since no more are written.
pub decimal_one : (m n : ℕ) → m < 2 ^ 32 → decimal m ≡ decimal n → m ≡ n
decimal_one m n low is =
    elim (cases_lt n (10 ^ 64)) [
      | inl less ↦ sym (decimal_is_IsNumeral_wide m (omega arith)).1 ∙ ap (digits_value 10) is ∙ (decimal_is_IsNumeral_wide n less).1
      | inr many ↦ absurd (omega (arith, ap length is, length-decimal m low, decimal-fill n many))
    ]
