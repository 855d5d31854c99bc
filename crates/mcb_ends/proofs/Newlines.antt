-- Where the first newline stands among the first 81 bytes.
use Rattle.std.proofs.Common.{◌≡◌, inl, inr, ℕ, suc, ◌+◌, ◌<◌, ◌≤◌, List, ◌∷◌, ◌++◌, length, take, drop, get_or, Some, None, ◌==◌, sym, ap, ◌∙◌}
use Rattle.std.proofs.Common.{arith, take-append-drop, drop-cons, length-take, add-one, subst, Contains}
use Rattle.std.proofs.lemmas.Bool.{eqb-true}
use Rattle.std.proofs.lemmas.List.{get_or-take}
use Rattle.std.proofs.lemmas.List.Quantifiers.{position-Some}
use Rattle.std.specs.List.{position}
use Rattle.std.specs.declared.option.Option.{Option}
use Rattle.mcb_ends.specs.Lines.{HasNoNewline, IsShortLine, newline}
use Rattle.mcb_ends.specs.Reader.{Reader, IsInHand}
use Rattle.mcb_ends.proofs.Sought.{no_place}

-- a newline that is found stands behind a short line
pub record Stands (bytes : List ℕ) (len : ℕ) : Type 0 where
  pub within : len < length bytes
  pub line : IsShortLine (take len bytes)
  pub split : bytes ≡ take len bytes ++ newline ∷ drop (len + 1) bytes

place_stands : (bytes : List ℕ) (len : ℕ) → position (λ byte. byte == newline) (take 81 bytes) ≡ Some len → Stands bytes len
place_stands bytes len is =
    let found = λ (d : ℕ). position-Some (λ (byte : ℕ). byte == newline) (take 81 bytes) len d is in
    let below : len < length (take 81 bytes) = (found 0).0 in
    let early : len < 81 = omega (arith, length-take 81 bytes) in
    let within : len < length bytes = omega (arith, length-take 81 bytes) in
    let here : get_or bytes len 0 ≡ newline = sym (get_or-take 81 bytes len 0 early) ∙ eqb-true (get_or (take 81 bytes) len 0) newline (found 0).1 in
    let behind : drop len bytes ≡ newline ∷ drop (len + 1) bytes = rw (add-one, drop-cons bytes len 0 within) (ap (λ byte. byte ∷ drop (suc len) bytes) here) in
    record {
      within = within;
      line = record {
        one = λ k d less at.
            let before : k < len = omega (arith, less, length-take len bytes) in
            let same : get_or (take 81 bytes) k d ≡ newline = get_or-take 81 bytes k d (omega arith) ∙ sym (get_or-take len bytes k d before) ∙ at in
            let no = rw same at ((found d).2 k before) in
            cc;
        short = omega (arith, length-take len bytes);
      };
      split = sym (take-append-drop len bytes) ∙ ap (λ (rest : List ℕ). take len bytes ++ rest) behind;
    }

-- the place that was found among the bytes that were shown
place_of : (bytes shown : List ℕ) (found place : Option ℕ) → shown ≡ bytes → found ≡ position (λ byte. byte == newline) (take 81 shown)
    → found ≡ place → position (λ byte. byte == newline) (take 81 bytes) ≡ place
place_of bytes shown found place same is at = ap (λ (xs : List ℕ). position (λ (byte : ℕ). byte == newline) (take 81 xs)) (sym same) ∙ sym is ∙ at

pub one_found : (bytes shown : List ℕ) (found : Option ℕ) (len : ℕ) → shown ≡ bytes → found ≡ position (λ byte. byte == newline) (take 81 shown)
    → found ≡ Some len → Stands bytes len
one_found bytes shown found len same is at = place_stands bytes len (place_of bytes shown found (Some len) same is at)

pub none_found : (bytes shown : List ℕ) (found : Option ℕ) → shown ≡ bytes → found ≡ position (λ byte. byte == newline) (take 81 shown)
    → found ≡ None → HasNoNewline (take 81 bytes)
none_found bytes shown found same is at = no_place newline (take 81 bytes) (place_of bytes shown found None same is at)

-- no newline among the first 81 bytes and at most 80 of them: what stands next is not in hand
pub not_in_hand : (reader : Reader) (held : List ℕ) → held ≡ reader.held → HasNoNewline (take 81 held) → length held ≤ 80 → IsInHand reader → ⊥
not_in_hand reader held same none short (inl found) =
    let there = subst (λ (xs : List ℕ). Contains (take 81 xs) newline) (sym same) found in
    none there.0 newline there.1 there.2
not_in_hand reader held same none short (inr long) = omega (arith, short, long, ap length same)
