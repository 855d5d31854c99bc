-- Words as lines and as arguments.
use Rattle.std.proofs.Common.{◌≡◌, ◌<◌, ℕ, List, refl, subst, lit<}
use Rattle.edge_words.specs.Reading.{Spells, digits_of}
use Rattle.edge_words.specs.Word.{IsWord}
use Rattle.edge_words.proofs.Digits.{digits_of-injective}
use Rattle.line_grammar.specs.Form.{IsForm}
use Rattle.line_grammar.specs.Offence.{number_of}
use Rattle.line_grammar.specs.declared.reason.Reason.{Reason}
use Rattle.line_grammar.specs.declared.reason.Reason.TheVariants.{NotAWord}
use Rattle.covering_file.specs.CornerForms.{RefusesWord}
use Rattle.covering_file.proofs.HeadLines.{digits_of-short}
use Rattle.billiards_cli.specs.Arguments.{RefusesAnyWord, any_word}

-- what is no word is no stable one
pub no_stable_word : (bytes : List ℕ) (reason : Reason) → RefusesAnyWord bytes reason → RefusesWord bytes reason
no_stable_word bytes NotAWord refused = refused
no_stable_word bytes reason refused = absurd refused

passes : (w : List ℕ) (r : Reason) → IsWord w → ¬ (RefusesAnyWord (digits_of w) r)
passes w NotAWord word refused = refused (w, record { is_word = word; digits = refl })
passes w reason word refused = refused

is_no_word : (bytes : List ℕ) (r : Reason) → RefusesAnyWord bytes r → r ≡ NotAWord
is_no_word bytes NotAWord refused = refl
is_no_word bytes reason refused = absurd refused

is_whole : (bytes : List ℕ) (r : Reason) → RefusesAnyWord bytes r → 2 < number_of r
is_whole bytes NotAWord refused = lit< tt
is_whole bytes reason refused = absurd refused

one_reason : (bytes : List ℕ) (r s : Reason) → RefusesAnyWord bytes r → RefusesAnyWord bytes s → r ≡ s
one_reason bytes r s p q = let first = is_no_word bytes r p in let second = is_no_word bytes s q in cc

pub any_word_is_form : IsForm any_word
any_word_is_form = record {
  short = digits_of-short;
  one_value = λ v w p q same. digits_of-injective v w same;
  passes = passes;
  one_reason = one_reason;
  whole = is_whole;
}

-- an argument that spells a word is not refused
pub word_not_refused : (argument w : List ℕ) (reason : Reason) → Spells argument w → ¬ (RefusesAnyWord argument reason)
word_not_refused argument w reason spells refused =
    passes w reason spells.is_word (subst (λ (bytes : List ℕ). RefusesAnyWord bytes reason) spells.digits refused)
