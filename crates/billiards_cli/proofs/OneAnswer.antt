-- How much freedom right answers leave.
use Rattle.std.proofs.Common.{◌≡◌, inl, inr, ℕ, List, [], ◌++◌, refl, sym, ap, ap₂, subst, ◌∙◌}
use Rattle.gradient_bounds.specs.Clear.{IsClearAtPoint}
use Rattle.gradient_bounds.specs.Slacks.{sure}
use Rattle.unfolding.proofs.Shifts.{same_shift}
use Rattle.line_grammar.proofs.Laws.{line_is_one}
use Rattle.covering_file.proofs.CornerForms.{word_is_form}
use Rattle.billiards_cli.specs.Arguments.{any_word}
use Rattle.billiards_cli.specs.Commands.At.{AtTriangle}
use Rattle.billiards_cli.specs.Commands.Word.{IsWordLine, IsWordText, shift_text}
use Rattle.billiards_cli.specs.Laws.{WordAnswerIsOne, AtAnswersDifferBetween}
use Rattle.billiards_cli.specs.Refusals.{refused_text, argument_text}
use Rattle.billiards_cli.specs.declared.status.Status.TheVariants.{Done, NotShown, Malformed, OutOfMemory}
use Rattle.billiards_cli.proofs.AtAnswers.{one_spelling, not_refused}
use Rattle.billiards_cli.proofs.WordAnswers.{word_is_not_refused, word_offence_is_one}
use Rattle.billiards_cli.proofs.WordArguments.{any_word_is_form}

-- ---- the command `word`

-- an input is the line of one word
one_word : (input v w : List ℕ) → IsWordLine input v → IsWordLine input w → v ≡ w
one_word input v w first second =
    let both = line_is_one any_word any_word_is_form v w [] [] first.says second.says (ap (λ (xs : List ℕ). xs ++ []) (sym first.text ∙ second.text)) in
    both.0

one_text : (w text text' : List ℕ) → IsWordText w text → IsWordText w text' → text ≡ text'
one_text w text text' (inl first) (inl second) = first.2 ∙ ap shift_text (same_shift w first.0 second.0 first.1 second.1) ∙ sym second.2
one_text w text text' (inl first) (inr second) = absurd (second.0 (first.0, first.1))
one_text w text text' (inr first) (inl second) = absurd (first.0 (second.0, second.1))
one_text w text text' (inr first) (inr second) = first.1 ∙ sym second.1

pub word_answer_is_one : WordAnswerIsOne
word_answer_is_one input text text' Done Done first second some more =
    let same = one_word input second.word first.word second.line first.line in
    (refl, one_text first.word text text' first.text_is (subst (λ (w : List ℕ). IsWordText w text') same second.text_is))
word_answer_is_one input text text' Malformed Malformed first second some more =
    let one = word_offence_is_one input first.line second.line first.reason second.reason first.refused second.refused in
    (refl, first.named ∙ ap₂ refused_text one.0 one.1 ∙ sym second.named)
word_answer_is_one input text text' Done Malformed first second some more =
    absurd (word_is_not_refused input first.word second.line second.reason first.line second.refused)
word_answer_is_one input text text' Malformed Done first second some more =
    absurd (word_is_not_refused input second.word first.line first.reason second.line first.refused)
word_answer_is_one input text text' status OutOfMemory first second some more = absurd (more refl)
word_answer_is_one input text text' OutOfMemory status first second some more = absurd (some refl)
word_answer_is_one input text text' Done status first second some more = absurd second
word_answer_is_one input text text' Malformed status first second some more = absurd second
word_answer_is_one input text text' status status' first second some more = absurd first

-- ---- the command `at`

pub at_answers_differ_between : AtAnswersDifferBetween
at_answers_differ_between argument text text' triangle Done Done first second some more = inl (refl, first.text_is ∙ sym second.text_is)
at_answers_differ_between argument text text' triangle NotShown NotShown first second some more = inl (refl, first.text_is ∙ sym second.text_is)
at_answers_differ_between argument text text' triangle Malformed Malformed first second some more =
    inl (refl, first.named ∙ ap argument_text (word_is_form.one_reason argument first.reason second.reason first.refused second.refused) ∙ sym second.named)
at_answers_differ_between argument text text' triangle Done NotShown first second some more =
    let not_clear = subst (λ (w : List ℕ). ¬ (AtTriangle triangle (λ x y. IsClearAtPoint w x y sure.gradient)))
    (one_spelling argument first.word second.word first.spells second.spells) second.not_clear in
    inr (record { word = first.word; spells = first.spells; corridor = first.corridor; not_clear = not_clear })
at_answers_differ_between argument text text' triangle NotShown Done first second some more =
    let not_clear = subst (λ (w : List ℕ). ¬ (AtTriangle triangle (λ x y. IsClearAtPoint w x y sure.gradient)))
    (one_spelling argument second.word first.word second.spells first.spells) first.not_clear in
    inr (record { word = second.word; spells = second.spells; corridor = second.corridor; not_clear = not_clear })
at_answers_differ_between argument text text' triangle Done Malformed first second some more =
    absurd (not_refused argument first.word second.reason first.spells first.corridor.stable second.refused)
at_answers_differ_between argument text text' triangle Malformed Done first second some more =
    absurd (not_refused argument second.word first.reason second.spells second.corridor.stable first.refused)
at_answers_differ_between argument text text' triangle NotShown Malformed first second some more =
    absurd (not_refused argument first.word second.reason first.spells first.stable second.refused)
at_answers_differ_between argument text text' triangle Malformed NotShown first second some more =
    absurd (not_refused argument second.word first.reason second.spells second.stable first.refused)
at_answers_differ_between argument text text' triangle status OutOfMemory first second some more = absurd (more refl)
at_answers_differ_between argument text text' triangle OutOfMemory status first second some more = absurd (some refl)
at_answers_differ_between argument text text' triangle Done status first second some more = absurd second
at_answers_differ_between argument text text' triangle NotShown status first second some more = absurd second
at_answers_differ_between argument text text' triangle Malformed status first second some more = absurd second
at_answers_differ_between argument text text' triangle status status' first second some more = absurd first
