-- No bytes get two answers.
use Rattle.std.proofs.Common.{◌≡◌, ℕ, ◌-◌, List, All, Ok, Err, inl, inr, sym, ◌∙◌, ap, subst, arith}
use Rattle.std.proofs.lemmas.Bool.{cases_lt}
use Rattle.edge_words.specs.declared.fault.WordFault.TheVariants.{Letter, Length, Neighbours}
use Rattle.edge_words.specs.Reading.{IsDigit, IsFirstOther, IsFirstRepeat, ReadsOneWay}
use Rattle.edge_words.specs.Word.{IsWordLength}
use Rattle.edge_words.proofs.Digits.{digits_of-injective, digits_of_word, length_of_word, neighbours_of_word}

-- among digits no byte is another one
pub no_other : (bytes : List ℕ) (p : ℕ) → All IsDigit bytes → IsFirstOther bytes p → ⊥
no_other bytes p digits first = first.other (digits (p - 1) 0 (omega (arith, first.in_range)))

-- there is one first other byte
one_other : (bytes : List ℕ) (p q : ℕ) → IsFirstOther bytes p → IsFirstOther bytes q → p ≡ q
one_other bytes p q first second =
    elim (cases_lt p q) [
      | inl before ↦ absurd (first.other (second.digits_before p first.in_range.0 before))
      | inr upto ↦
          elim (cases_lt q p) [
            | inl behind ↦ absurd (second.other (first.digits_before q second.in_range.0 behind))
            | inr from ↦ omega arith
          ]
    ]

-- there is one first repeat
one_repeat : (bytes : List ℕ) (p q : ℕ) → IsFirstRepeat bytes p → IsFirstRepeat bytes q → p ≡ q
one_repeat bytes p q first second =
    elim (cases_lt p q) [
      | inl before ↦ absurd (second.differ_before p first.in_range.0 before first.repeats)
      | inr upto ↦
          elim (cases_lt q p) [
            | inl behind ↦ absurd (first.differ_before q second.in_range.0 behind second.repeats)
            | inr from ↦ omega arith
          ]
    ]

pub reads_one_way : ReadsOneWay
reads_one_way bytes (Ok w) (Ok v) r s = ap Ok (digits_of-injective w v (sym r.digits ∙ s.digits))
reads_one_way bytes (Ok w) (Err (Letter q)) r s = absurd (no_other bytes q (digits_of_word bytes w r) s)
reads_one_way bytes (Ok w) (Err (Length m)) r s = absurd (s.other (subst IsWordLength (sym s.counted) (length_of_word bytes w r)))
reads_one_way bytes (Ok w) (Err (Neighbours q)) r s = absurd (neighbours_of_word bytes w r q s.first.in_range s.first.repeats)
reads_one_way bytes (Err (Letter p)) (Ok v) r s = absurd (no_other bytes p (digits_of_word bytes v s) r)
reads_one_way bytes (Err (Letter p)) (Err (Letter q)) r s = ap (λ place. Err (Letter place)) (one_other bytes p q r s)
reads_one_way bytes (Err (Letter p)) (Err (Length m)) r s = absurd (no_other bytes p s.digits r)
reads_one_way bytes (Err (Letter p)) (Err (Neighbours q)) r s = absurd (no_other bytes p s.digits r)
reads_one_way bytes (Err (Length n)) (Ok v) r s = absurd (r.other (subst IsWordLength (sym r.counted) (length_of_word bytes v s)))
reads_one_way bytes (Err (Length n)) (Err (Letter q)) r s = absurd (no_other bytes q r.digits s)
reads_one_way bytes (Err (Length n)) (Err (Length m)) r s = ap (λ len. Err (Length len)) (r.counted ∙ sym s.counted)
reads_one_way bytes (Err (Length n)) (Err (Neighbours q)) r s = absurd (r.other (subst IsWordLength (sym r.counted) s.word_length))
reads_one_way bytes (Err (Neighbours p)) (Ok v) r s = absurd (neighbours_of_word bytes v s p r.first.in_range r.first.repeats)
reads_one_way bytes (Err (Neighbours p)) (Err (Letter q)) r s = absurd (no_other bytes q r.digits s)
reads_one_way bytes (Err (Neighbours p)) (Err (Length m)) r s = absurd (s.other (subst IsWordLength (sym s.counted) r.word_length))
reads_one_way bytes (Err (Neighbours p)) (Err (Neighbours q)) r s = ap (λ place. Err (Neighbours place)) (one_repeat bytes p q r.first s.first)
