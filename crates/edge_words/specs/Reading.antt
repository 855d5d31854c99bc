-- What bytes spell a word, and why others do not.
use Rattle.std.specs.Prelude.{◌≡◌, ◌≢◌, ℕ, ◌+◌, ◌<◌, ◌≤◌, List, map, length, All, Result, Ok, Err}
use Rattle.edge_words.specs.Letters.{IsPlace, letter_at, letter_after}
use Rattle.edge_words.specs.Word.{IsWord, IsWordLength}
use Rattle.edge_words.specs.declared.fault.WordFault.{WordFault}
use Rattle.edge_words.specs.declared.fault.WordFault.TheVariants.{Letter, Length, Neighbours}

-- one of the characters '1', '2' and '3'
abbrev pub IsDigit : ℕ → Type 0
IsDigit b = (49 ≤ b) × (b ≤ 51)

-- the characters that spell letters
abbrev pub digits_of : List ℕ → List ℕ
digits_of w = map (λ x. x + 48) w

-- the bytes are the digits of a word
pub record Spells (bytes w : List ℕ) : Type 0 where
  pub is_word : IsWord w
  pub digits : bytes ≡ digits_of w

-- the place of the first byte that is no digit of a letter
pub record IsFirstOther (bytes : List ℕ) (place : ℕ) : Type 0 where
  pub in_range : IsPlace bytes place
  pub other : ¬ (IsDigit (letter_at bytes place))
  pub digits_before : (i : ℕ) → 1 ≤ i → i < place → IsDigit (letter_at bytes i)

-- the place of the first byte that equals the one after it
pub record IsFirstRepeat (bytes : List ℕ) (place : ℕ) : Type 0 where
  pub in_range : IsPlace bytes place
  pub repeats : letter_at bytes place ≡ letter_after bytes place
  pub differ_before : (i : ℕ) → 1 ≤ i → i < place → letter_at bytes i ≢ letter_after bytes i

-- digits, in a number that no word has
pub record HasOtherLength (bytes : List ℕ) (len : ℕ) : Type 0 where
  pub digits : All IsDigit bytes
  pub counted : len ≡ length bytes
  pub other : ¬ (IsWordLength len)

-- digits, as many as a word may have, of which two neighbours are equal
pub record HasRepeat (bytes : List ℕ) (place : ℕ) : Type 0 where
  pub digits : All IsDigit bytes
  pub word_length : IsWordLength (length bytes)
  pub first : IsFirstRepeat bytes place

-- the answer that the bytes get: a word is read from its digits, and else the first reason counts, in the order of the cases
abbrev pub Reads : List ℕ → Result (List ℕ) WordFault → Type 0
Reads bytes (Ok w) = Spells bytes w
Reads bytes (Err (Letter place)) = IsFirstOther bytes place
Reads bytes (Err (Length len)) = HasOtherLength bytes len
Reads bytes (Err (Neighbours place)) = HasRepeat bytes place

-- no bytes get two answers
abbrev pub ReadsOneWay : Type 0
ReadsOneWay = (bytes : List ℕ) (answer other : Result (List ℕ) WordFault) → Reads bytes answer → Reads bytes other → answer ≡ other
