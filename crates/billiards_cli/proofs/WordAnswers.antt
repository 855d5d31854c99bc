-- The right answers of `word`.
use Rattle.std.proofs.Common.{ℕ, List, [], Option, refl, sym, subst, ◌∙◌, append-nil, inl, inr}
use Rattle.edge_words.specs.Stable.{IsStable}
use Rattle.edge_words.specs.Word.{IsWord}
use Rattle.unfolding.specs.Shift.{HasShift}
use Rattle.unfolding.proofs.Shifts.{stable_from_shift}
use Rattle.line_grammar.specs.Input.{MayBe}
use Rattle.line_grammar.specs.Laws.{NeverOffends, OffenceIsOne}
use Rattle.line_grammar.specs.Offence.{IsFirstOffence}
use Rattle.line_grammar.specs.Part.{line_part}
use Rattle.line_grammar.specs.Text.{text_of}
use Rattle.line_grammar.specs.declared.reason.Reason.{Reason}
use Rattle.line_grammar.proofs.Laws.{Any, line_is_one, line_never, line_offence_is_one, text_never, text_offence_is_one}
use Rattle.billiards_cli.specs.Arguments.{any_word}
use Rattle.billiards_cli.specs.Command.{By}
use Rattle.billiards_cli.specs.Commands.Word.{word_reads_to, word_input, IsWordLine, IsRefusedWord, IsWordAnswer, IsWordDue, IsWordText, unstable_text}
use Rattle.billiards_cli.specs.Requests.{command_of}
use Rattle.billiards_cli.specs.Services.{IsAnswer, ReadsFor}
use Rattle.billiards_cli.specs.declared.request.Request.TheVariants as request
use Rattle.billiards_cli.specs.declared.status.Status.{Status}
use Rattle.billiards_cli.specs.declared.status.Status.TheVariants.{Done, Malformed, OutOfMemory}
use Rattle.billiards_cli.proofs.WordArguments.{any_word_is_form}

-- the text of a word does not offend
pub word_is_not_refused : (input w : List ℕ) (line : ℕ) (reason : Reason) → IsWordLine input w → IsRefusedWord input line reason → ⊥
word_is_not_refused input w line reason is refused =
    let never : NeverOffends word_input Any [] =
    text_never (line_part any_word) Any (line_is_one any_word any_word_is_form) (line_never any_word any_word_is_form Any) in
    let same = is.text ∙ sym (append-nil (text_of (word_input.lines_of w))) in
    never w line reason is.says tt (subst (λ (xs : List ℕ). IsFirstOffence word_input.grammar xs line reason) same refused)

-- and what offends does so at one line
pub word_offence_is_one : OffenceIsOne word_input.grammar
word_offence_is_one =
    text_offence_is_one (line_part any_word) (line_is_one any_word any_word_is_form) (line_never any_word any_word_is_form Any) (line_offence_is_one any_word)

word_answer_is_due : (input : List ℕ) (status : Status) (text : List ℕ) → IsWordAnswer input status text → IsWordDue input status
word_answer_is_due input Done text answer = record { done = λ w line. inl refl; refused = λ none. absurd (none (answer.word, answer.line)) }
word_answer_is_due input OutOfMemory text answer = record { done = λ w line. inr refl; refused = λ none. absurd (none (answer.word, answer.line)) }
word_answer_is_due input Malformed text answer =
    record { done = λ w line. absurd (word_is_not_refused input w answer.line answer.reason line answer.refused); refused = λ none. refl }
word_answer_is_due input status text answer = absurd answer

-- a right answer is one that the command may give
pub word_answer : (left left' : Option (List ℕ)) (input : List ℕ) (status : Status) (text : List ℕ)
    → MayBe left input → IsWordAnswer input status text → ReadsFor (By word_input.grammar) (word_reads_to status) text left left'
    → IsAnswer (command_of request.Word) left left' status text
word_answer left left' input status text may_be right read =
    record { input = input; may_be = may_be; right = right; due = word_answer_is_due input status text right; read = read }

-- a word that is not stable has no shift
pub unstable_word_text : (w : List ℕ) → IsWord w → ¬ (IsStable w) → IsWordText w unstable_text
unstable_word_text w word unstable =
    let none : ¬ (HasShift w) = λ shift. unstable (stable_from_shift w word.letters word.even_length.even shift) in inr (none, refl)
