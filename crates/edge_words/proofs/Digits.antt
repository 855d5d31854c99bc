-- Digits and the letters that they spell.
use Rattle.std.proofs.Common.{◌≡◌, ◌≢◌, ℕ, ◌+◌, ◌-◌, ◌%◌, ◌<◌, ◌≤◌, List, [], ◌∷◌, ◌++◌, length, get_or, take, refl, All, sym, ◌∙◌, ap, subst, arith}
use Rattle.std.proofs.lemmas.List.{get_or-map, length-map, length-take-le, take_more, map_push, map_more, length_push}
use Rattle.std.proofs.lemmas.List.Elements.{All-from_get_or, All-get_or}
use Rattle.edge_words.specs.declared.TheConstants.{MAX_LETTERS}
use Rattle.edge_words.specs.Letters.{IsLetter, IsPlace, letter_at, letter_after}
use Rattle.edge_words.specs.Reading.{IsDigit, digits_of, Spells, IsFirstOther, IsFirstRepeat}
use Rattle.edge_words.specs.Word.{IsWord, IsWordLength, NeighboursDiffer}

-- the digit at an index
digit_at : (w : List ℕ) (k : ℕ) → k < length w → get_or (digits_of w) k 0 ≡ get_or w k 0 + 48
digit_at w k h = get_or-map (λ x. x + 48) w k 0 0 h

-- the digit at a place
pub letter_at-digits_of : (w : List ℕ) (i : ℕ) → IsPlace w i → letter_at (digits_of w) i ≡ letter_at w i + 48
letter_at-digits_of w i place = let h : i - 1 < length w = omega arith in digit_at w (i - 1) h

-- the digit after a place
pub letter_after-digits_of : (w : List ℕ) (i : ℕ) → IsPlace w i → letter_after (digits_of w) i ≡ letter_after w i + 48
letter_after-digits_of w i place =
    let h : i % length w < length w = omega arith in
    let e : length (digits_of w) ≡ length w = length-map w (λ x. x + 48) in
    rw e (digit_at w (i % length w) h)

-- digits spell letters
pub letters_of_digits : (bytes w : List ℕ) → bytes ≡ digits_of w → All IsDigit bytes → All IsLetter w
letters_of_digits bytes w e digits =
    let len : length bytes ≡ length w = ap length e ∙ length-map w (λ x. x + 48) in
    All-from_get_or IsLetter w 0 (λ k h. let d = All-get_or IsDigit bytes k 0 (omega (arith, len, h)) digits in let v : get_or bytes k 0
    ≡ get_or w k 0 + 48 = ap (λ xs. get_or xs k 0) e ∙ digit_at w k h in (omega (arith, d, v), omega (arith, d, v)))

-- and what spells letters is digits
pub digits_of_letters : (bytes w : List ℕ) → bytes ≡ digits_of w → All IsLetter w → All IsDigit bytes
digits_of_letters bytes w e letters =
    subst (All IsDigit) (sym e) (All-from_get_or IsDigit (digits_of w) 0
    (λ k h. let l : k < length w = omega (arith, h, length-map w (λ x. x + 48)) in let d = All-get_or IsLetter w k 0 l letters in
    (omega (arith, d, digit_at w k l), omega (arith, d, digit_at w k l))))

-- digits of which no two neighbours are equal, in a good number, spell a word
pub word_of_digits : (bytes w : List ℕ) → bytes ≡ digits_of w → All IsDigit bytes → IsWordLength (length bytes) → NeighboursDiffer bytes → IsWord w
word_of_digits bytes w e digits good differ =
    let len : length bytes ≡ length w = ap length e ∙ length-map w (λ x. x + 48) in
    record {
      letters = letters_of_digits bytes w e digits;
      even_length = subst IsWordLength len good;
      neighbours_differ = λ i place same. differ i (place.0, omega (arith, len, place))
          (ap (λ xs. letter_at xs i) e ∙ letter_at-digits_of w i place ∙ ap (λ x. x + 48) same ∙ sym (letter_after-digits_of w i place)
          ∙ sym (ap (λ xs. letter_after xs i) e));
    }

-- what spells a word is digits
pub digits_of_word : (bytes w : List ℕ) → Spells bytes w → All IsDigit bytes
digits_of_word bytes w s = digits_of_letters bytes w s.digits s.is_word.letters

-- what spells a word has the word's length
pub length_of_word : (bytes w : List ℕ) → Spells bytes w → IsWordLength (length bytes)
length_of_word bytes w s = subst IsWordLength (sym (ap length s.digits ∙ length-map w (λ x. x + 48))) s.is_word.even_length

-- in what spells a word no neighbours are equal
pub neighbours_of_word : (bytes w : List ℕ) → Spells bytes w → NeighboursDiffer bytes
neighbours_of_word bytes w s i place same =
    let place' : IsPlace w i = (place.0, omega (arith, place, ap length s.digits, length-map w (λ x. x + 48))) in
    let e : letter_at w i + 48 ≡ letter_after w i + 48 = sym (letter_at-digits_of w i place') ∙ sym (ap (λ xs. letter_at xs i) s.digits) ∙ same
    ∙ ap (λ xs. letter_after xs i) s.digits ∙ letter_after-digits_of w i place' in
    s.is_word.neighbours_differ i place' (omega (arith, e))

-- digits spell one list of letters
pub digits_of-injective : (w v : List ℕ) → digits_of w ≡ digits_of v → w ≡ v
digits_of-injective [] [] e = refl
digits_of-injective [] (y ∷ v) e = cc
digits_of-injective (x ∷ w) [] e = cc
digits_of-injective (x ∷ w) (y ∷ v) e =
    let head : x + 48 ≡ y + 48 = cc in
    let tail : digits_of w ≡ digits_of v = cc in
    let same_head : x ≡ y = omega (arith, head) in
    let same_tail = digits_of-injective w v tail in
    cc

-- the first byte of a list that is no digit
pub first_other_at : (bytes : List ℕ) (k : ℕ) → k < length bytes → ¬ (IsDigit (get_or bytes k 0)) → ((i : ℕ) → i < k → IsDigit (get_or bytes i 0))
    → IsFirstOther bytes (k + 1)
first_other_at bytes k h other before =
    let e : k + 1 - 1 ≡ k = omega arith in
    record {
      in_range = (omega arith, omega arith);
      other = rw e other;
      digits_before = λ i low high. before (i - 1) (omega arith);
    }

-- the first byte of a list that equals the next
pub first_repeat_at : (bytes : List ℕ) (k : ℕ) → k < length bytes → get_or bytes k 0 ≡ get_or bytes ((k + 1) % length bytes) 0
    → ((i : ℕ) → i < k → get_or bytes i 0 ≢ get_or bytes ((i + 1) % length bytes) 0) → IsFirstRepeat bytes (k + 1)
first_repeat_at bytes k h repeats before =
    let e : k + 1 - 1 ≡ k = omega arith in
    record {
      in_range = (omega arith, omega arith);
      repeats = rw e repeats;
      differ_before = λ i low high. let f : i - 1 + 1 ≡ i = omega arith in rw f at (before (i - 1) (omega arith));
    }

-- bytes each of which differs from the next, by their indices
pub differ_from_indices : (bytes : List ℕ) → ((i : ℕ) → i < length bytes → get_or bytes i 0 ≢ get_or bytes ((i + 1) % length bytes) 0) → NeighboursDiffer bytes
differ_from_indices bytes each i place = let f : i - 1 + 1 ≡ i = omega arith in rw f at (each (i - 1) (omega arith))

-- the letters of the first i digits, in a vector with room for a word
pub record IsSpelledSoFar (digits : List ℕ) (i : ℕ) (letters : List ℕ) (capacity : ℕ) : Type 0 where
  pub spelled : take i digits ≡ digits_of letters
  pub count : length letters ≡ i
  pub room : capacity ≡ MAX_LETTERS

-- one more
pub spelled_more : (digits : List ℕ) (i : ℕ) (letters : List ℕ) (capacity : ℕ) → i < length digits → 48 ≤ get_or digits i 0
    → IsSpelledSoFar digits i letters capacity → IsSpelledSoFar digits (i + 1) (letters ++ (get_or digits i 0 - 48) ∷ []) capacity
spelled_more digits i letters capacity h digit is = record {
  spelled =
      let back : get_or digits i 0 - 48 + 48 ≡ get_or digits i 0 = omega arith in
      take_more digits i 0 h ∙ ap (λ xs. xs ++ get_or digits i 0 ∷ []) is.spelled
      ∙ sym (map_push (λ x. x + 48) letters (get_or digits i 0 - 48) ∙ ap (λ x. digits_of letters ++ x ∷ []) back);
  count = omega (arith, length_push letters (get_or digits i 0 - 48), is);
  room = is.room;
}

-- the digits of the first i letters, in a vector with room for a word
pub record IsWrittenSoFar (letters : List ℕ) (i : ℕ) (digits : List ℕ) (capacity : ℕ) : Type 0 where
  pub written : digits ≡ digits_of (take i letters)
  pub room : capacity ≡ MAX_LETTERS

-- one more
pub written_more : (letters : List ℕ) (i : ℕ) (digits : List ℕ) (capacity : ℕ) → i < length letters → IsWrittenSoFar letters i digits capacity
    → IsWrittenSoFar letters (i + 1) (digits ++ (get_or letters i 0 + 48) ∷ []) capacity
written_more letters i digits capacity h is = record {
  written = ap (λ xs. xs ++ (get_or letters i 0 + 48) ∷ []) is.written ∙ sym (map_more (λ x. x + 48) letters i 0 h);
  room = is.room;
}

-- so many digits
pub length_written : (letters : List ℕ) (i : ℕ) (digits : List ℕ) (capacity : ℕ) → i ≤ length letters → IsWrittenSoFar letters i digits capacity
    → length digits ≡ i
length_written letters i digits capacity h is = ap length is.written ∙ length-map (take i letters) (λ x. x + 48) ∙ length-take-le i letters h
