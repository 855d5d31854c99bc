-- Whole words, as they are written in digits and read again.
use Rattle.std.proofs.Common.{◌≡◌, ℕ, ◌+◌, ◌<◌, List, [], ◌∷◌, ◌++◌, length, get_or, set, take, sym, ◌∙◌, ap, subst, arith}
use Rattle.std.proofs.lemmas.List.{map_more, take_all, take_more_set}
use Rattle.std.specs.Prelude.{Ok, Err}
use Rattle.edge_words.specs.declared.fault.WordFault.{WordFault}
use Rattle.edge_words.specs.Reading.{Reads, Spells, digits_of}
use Rattle.edge_words.specs.Word.{IsWord}
use Rattle.edge_words.proofs.OneWay.{reads_one_way}
use Rattle.edge_words.proofs.Digits.{digits_of-injective}

-- one more digit
pub digit_written : (buffer letters : List ℕ) (i : ℕ) → i < length buffer → i < length letters → take i buffer ≡ digits_of (take i letters)
    → take (i + 1) (set buffer i (get_or letters i 0 + 48)) ≡ digits_of (take (i + 1) letters)
digit_written buffer letters i h l so_far =
    take_more_set buffer i (get_or letters i 0 + 48) h ∙ ap (λ xs. xs ++ (get_or letters i 0 + 48) ∷ []) so_far ∙ sym (map_more (λ x. x + 48) letters i 0 l)

-- all of them
pub all_written : (buffer letters : List ℕ) (i : ℕ) → i ≡ length letters → take i buffer ≡ digits_of (take i letters)
    → take (length letters) buffer ≡ digits_of letters
all_written buffer letters i e so_far =
    subst (λ k. take k buffer ≡ digits_of (take k letters)) e so_far ∙ ap digits_of (take_all (length letters) letters (omega arith))

-- the word that is read
pub read_back : (bytes w v : List ℕ) → bytes ≡ digits_of v → Spells bytes w → w ≡ v
read_back bytes w v digits spells = digits_of-injective w v (sym spells.digits ∙ digits)

-- digits of a word are never refused
pub not_refused : (bytes w : List ℕ) (fault : WordFault) → bytes ≡ digits_of w → IsWord w → ¬ (Reads bytes (Err fault))
not_refused bytes w fault digits is refused =
    let one : Ok w ≡ Err fault = reads_one_way bytes (Ok w) (Err fault) (record { is_word = is; digits = digits }) refused in
    cc
