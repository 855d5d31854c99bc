-- Lines one after another: bytes that begin with a line begin with no other, and a line with a name and a number tells it.
use Rattle.std.proofs.Common.{◌≡◌, ◌≢◌, ◌==◌, ℕ, ◌≤◌, ◌<◌, ◌^◌, true, not, List, [], ◌∷◌, ◌++◌, length, get_or, decimal, All}
use Rattle.std.proofs.Common.{refl, sym, ◌∙◌, arith, append_assoc, length-append, eq-eqb}
use Rattle.std.proofs.lemmas.List.{append_cancel_left}
use Rattle.std.proofs.lemmas.List.Elements.{All-tail, All-cons, All-append}
use Rattle.std.proofs.lemmas.List.Sums.{AllPass-from_list_all}
use Rattle.std.specs.List.{list_all}
use Rattle.mcb_ends.specs.Lines.{newline, HasNoNewline, IsShortLine}
use Rattle.line_grammar.specs.Text.{space, HasNoSpace, two_fields, named_line, with_newline, text_of}
use Rattle.line_grammar.proofs.Numbers.{decimal_without, length-decimal, decimal_one}

-- what stands before a byte for the first time, and what stands after it
pub parted : (byte : ℕ) (xs ys rest rest' : List ℕ) → All (λ b. b ≢ byte) xs → All (λ b. b ≢ byte) ys
    → xs ++ byte ∷ rest ≡ ys ++ byte ∷ rest' → (xs ≡ ys) × (rest ≡ rest')
parted byte [] [] rest rest' none none' is = (refl, cc)
parted byte [] (y ∷ ys) rest rest' none none' is =
    let first : y ≡ byte = cc in
    absurd (none' 0 0 (omega arith) first)
parted byte (x ∷ xs) [] rest rest' none none' is =
    let first : x ≡ byte = cc in
    absurd (none 0 0 (omega arith) first)
parted byte (x ∷ xs) (y ∷ ys) rest rest' none none' is =
    let first : x ≡ y = cc in
    let after : xs ++ byte ∷ rest ≡ ys ++ byte ∷ rest' = cc in
    let same = parted byte xs ys rest rest' (All-tail (λ b. b ≢ byte) x xs none) (All-tail (λ b. b ≢ byte) y ys none') after in
    let both : x ∷ xs ≡ y ∷ ys = cc in
    (both, same.1)

-- a test finds the byte nowhere
pub lacks_byte : (byte : ℕ) (bytes : List ℕ) → list_all (λ b. not (b == byte)) bytes ≡ true → All (λ b. b ≢ byte) bytes
lacks_byte byte bytes test k d within same =
    let passes = AllPass-from_list_all (λ (b : ℕ). not (b == byte)) bytes test k d within in
    let here : (get_or bytes k d == byte) ≡ true = eq-eqb (get_or bytes k d) byte same in
    let fails = rw here at passes in
    cc

-- ---- one line, and what follows it

pub line-text : (line after x : List ℕ) → (with_newline line ++ after) ++ x ≡ line ++ newline ∷ (after ++ x)
line-text line after x = append_assoc (with_newline line) after x ∙ append_assoc line (newline ∷ []) (after ++ x)

pub one_line : (line other : List ℕ) (lines others : List (List ℕ)) (x y : List ℕ) → HasNoNewline line → HasNoNewline other
    → text_of (line ∷ lines) ++ x ≡ text_of (other ∷ others) ++ y → (line ≡ other) × (text_of lines ++ x ≡ text_of others ++ y)
one_line line other lines others x y none none' is =
    parted newline line other (text_of lines ++ x) (text_of others ++ y) none none'
    (sym (line-text line (text_of lines) x) ∙ is ∙ line-text other (text_of others) y)

-- ---- a name and a number

pub decimal-no_space : (n : ℕ) → HasNoSpace (decimal n)
decimal-no_space n = decimal_without space n (omega arith)

-- two fields, of which the first lacks newlines and the second is a number
pub two_fields-one : (name : List ℕ) (n : ℕ) → HasNoNewline name → HasNoNewline (two_fields name (decimal n))
two_fields-one name n none =
    All-append (λ b. b ≢ newline) name (space ∷ decimal n) none
    (All-cons (λ b. b ≢ newline) space (decimal n) (λ e. omega (arith, e)) (decimal_without newline n (omega arith)))

-- and is of at most 40 bytes
pub two_fields-short : (name : List ℕ) (n : ℕ) → HasNoNewline name → length name ≤ 40 → n < 2 ^ 32 → IsShortLine (two_fields name (decimal n))
two_fields-short name n none small low = record {
  one = two_fields-one name n none;
  short = omega (arith, length-append name (space ∷ decimal n), length-decimal n low);
}

pub one_number : (name : List ℕ) (m n : ℕ) → m < 2 ^ 32 → named_line name m ≡ named_line name n → m ≡ n
one_number name m n low is =
    let after : space ∷ decimal m ≡ space ∷ decimal n = append_cancel_left name (space ∷ decimal m) (space ∷ decimal n) is in
    let digits : decimal m ≡ decimal n = cc in
    decimal_one m n low digits
