-- Exactly one line or end stands next in given bytes.
use Rattle.std.proofs.Common.{◌≡◌, ◌⊎◌, inl, inr, ℕ, ◌+◌, ◌<◌, ◌≤◌, List, [], ◌∷◌, ◌++◌, length, take, drop, get_or, Some, None, ◌==◌, ◌≢◌, refl, sym}
use Rattle.std.proofs.Common.{ap, ◌∙◌, subst, arith, length-append, length-take}
use Rattle.std.proofs.Math.Seq.{get_or-append_seam}
use Rattle.std.proofs.lemmas.Bool.{cases_lt}
use Rattle.std.proofs.lemmas.List.{get_or-take, take_all}
use Rattle.std.proofs.lemmas.List.Elements.{All-tail}
use Rattle.std.specs.List.{position}
use Rattle.std.specs.declared.option.Option.{Option}
use Rattle.mcb_ends.specs.Lines.{Next, Text, TooLong, CutShort, End, IsNext, HasNoNewline, IsShortLine, newline}
use Rattle.mcb_ends.proofs.Newlines.{one_found, none_found}

-- a line that ends within the first bytes has its newline among them
newline_within : (bytes line rest : List ℕ) → bytes ≡ line ++ newline ∷ rest → length line < 81 → HasNoNewline (take 81 bytes) → ⊥
newline_within bytes line rest is short none =
    let at : get_or (take 81 bytes) (length line) 0 ≡ newline = get_or-take 81 bytes (length line) 0 short
    ∙ ap (λ (xs : List ℕ). get_or xs (length line) 0) is ∙ get_or-append_seam line newline rest 0 in
    none (length line) 0 (omega (arith, short, length-take 81 bytes, ap length is, length-append line (newline ∷ rest))) at

-- two lines with no newline, each with a newline behind it
line_unique : (xs ys rest rest' : List ℕ) → HasNoNewline xs → HasNoNewline ys → xs ++ newline ∷ rest ≡ ys ++ newline ∷ rest' → (xs ≡ ys) × (rest ≡ rest')
line_unique [] [] rest rest' none none' is = (refl, cc)
line_unique [] (y ∷ ys) rest rest' none none' is =
    let first : y ≡ newline = cc in
    absurd (none' 0 0 (omega arith) first)
line_unique (x ∷ xs) [] rest rest' none none' is =
    let first : x ≡ newline = cc in
    absurd (none 0 0 (omega arith) first)
line_unique (x ∷ xs) (y ∷ ys) rest rest' none none' is =
    let first : x ≡ y = cc in
    let behind : xs ++ newline ∷ rest ≡ ys ++ newline ∷ rest' = cc in
    let same = line_unique xs ys rest rest' (All-tail (λ byte. byte ≢ newline) x xs none) (All-tail (λ byte. byte ≢ newline) y ys none') behind in
    let lines : x ∷ xs ≡ y ∷ ys = cc in
    (lines, same.1)

-- a line is none of the ends
text_alone : (bytes line rest : List ℕ) → IsShortLine line → bytes ≡ line ++ newline ∷ rest → HasNoNewline (take 81 bytes) → ⊥
text_alone bytes line rest short is none = newline_within bytes line rest is (omega (arith, short.short)) none

front_of_short : (bytes : List ℕ) → IsShortLine bytes → HasNoNewline (take 81 bytes)
front_of_short bytes short = subst HasNoNewline (sym (take_all 81 bytes (omega (arith, short.short)))) short.one

-- bytes that end with no line, by how many they are
not_text : (bytes line rest : List ℕ) → bytes ≡ line ++ newline ∷ rest → length bytes ≡ 0 → ⊥
not_text bytes line rest is none = omega (arith, none, ap length is, length-append line (newline ∷ rest))

pub IsNext-unique : (bytes : List ℕ) (a b : Next) (rest rest' : List ℕ) → IsNext bytes a rest → IsNext bytes b rest' → (a ≡ b) × (rest ≡ rest')
IsNext-unique bytes (Text xs) (Text ys) rest rest' p q =
    let same = line_unique xs ys rest rest' p.0.one q.0.one (sym p.1 ∙ q.1) in
    (ap (λ (line : List ℕ). Text line) same.0, same.1)
IsNext-unique bytes (Text xs) TooLong rest rest' p q = absurd (text_alone bytes xs rest p.0 p.1 q.1)
IsNext-unique bytes (Text xs) CutShort rest rest' p q = absurd (text_alone bytes xs rest p.0 p.1 (front_of_short bytes q.1))
IsNext-unique bytes (Text xs) End rest rest' p q = absurd (not_text bytes xs rest p.1 (ap length q.0))
IsNext-unique bytes TooLong (Text ys) rest rest' p q = absurd (text_alone bytes ys rest' q.0 q.1 p.1)
IsNext-unique bytes TooLong TooLong rest rest' p q = (refl, p.2 ∙ sym q.2)
IsNext-unique bytes TooLong CutShort rest rest' p q = absurd (omega (arith, p.0, q.1.short))
IsNext-unique bytes TooLong End rest rest' p q = absurd (omega (arith, p.0, ap length q.0))
IsNext-unique bytes CutShort (Text ys) rest rest' p q = absurd (text_alone bytes ys rest' q.0 q.1 (front_of_short bytes p.1))
IsNext-unique bytes CutShort TooLong rest rest' p q = absurd (omega (arith, q.0, p.1.short))
IsNext-unique bytes CutShort CutShort rest rest' p q = (refl, p.2 ∙ sym q.2)
IsNext-unique bytes CutShort End rest rest' p q = absurd (omega (arith, p.0, ap length q.0))
IsNext-unique bytes End (Text ys) rest rest' p q = absurd (not_text bytes ys rest' q.1 (ap length p.0))
IsNext-unique bytes End TooLong rest rest' p q = absurd (omega (arith, q.0, ap length p.0))
IsNext-unique bytes End CutShort rest rest' p q = absurd (omega (arith, q.0, ap length p.0))
IsNext-unique bytes End End rest rest' p q = (refl, p.1 ∙ sym q.1)

-- without a newline among the first 81 bytes the length decides
end_exists : (bytes : List ℕ) → HasNoNewline (take 81 bytes) → (80 < length bytes) ⊎ (length bytes ≤ 80) → (next : Next) × (rest : List ℕ)
    × IsNext bytes next rest
end_exists bytes none (inl long) = (TooLong, [], (long, none, refl))
end_exists [] none (inr short) = (End, [], (refl, refl))
end_exists (byte ∷ bytes) none (inr short) =
    let line : IsShortLine (byte ∷ bytes) = record { one = subst HasNoNewline (take_all 81 (byte ∷ bytes) (omega (arith, short))) none; short = short } in
    (CutShort, [], (omega arith, line, refl))

found_exists : (bytes : List ℕ) (place : Option ℕ) → place ≡ position (λ byte. byte == newline) (take 81 bytes) → (next : Next) × (rest : List ℕ)
    × IsNext bytes next rest
found_exists bytes None is = end_exists bytes (none_found bytes bytes None refl is refl) (cases_lt 80 (length bytes))
found_exists bytes (Some len) is =
    let stands = one_found bytes bytes (Some len) len refl is refl in
    (Text (take len bytes), drop (len + 1) bytes, (stands.line, stands.split))

pub IsNext-exists : (bytes : List ℕ) → (next : Next) × (rest : List ℕ) × IsNext bytes next rest
IsNext-exists bytes = found_exists bytes (position (λ byte. byte == newline) (take 81 bytes)) refl
