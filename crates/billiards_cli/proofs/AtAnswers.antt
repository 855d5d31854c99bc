-- The right answers of `at`.
use Rattle.std.proofs.Common.{◌≡◌, ℕ, List, [], Option, Some, None, refl, sym, subst, ◌∙◌, inl, inr}
use Rattle.edge_words.specs.Reading.{Spells}
use Rattle.edge_words.specs.Stable.{IsStable}
use Rattle.edge_words.proofs.Digits.{digits_of-injective}
use Rattle.gradient_bounds.specs.Clear.{IsClearAtPoint}
use Rattle.gradient_bounds.specs.Slacks.{sure}
use Rattle.covering_file.specs.CornerForms.{RefusesWord}
use Rattle.covering_file.specs.Header.{IsStableWord}
use Rattle.covering_file.proofs.CornerForms.{word_is_form}
use Rattle.line_grammar.specs.declared.reason.Reason.{Reason}
use Rattle.billiards_cli.specs.Arguments.{Angles}
use Rattle.billiards_cli.specs.Requests.{command_of}
use Rattle.billiards_cli.specs.Services.{IsAnswer}
use Rattle.billiards_cli.specs.declared.request.Request.TheVariants as request
use Rattle.billiards_cli.specs.Commands.At.{AtTriangle, IsAtAnswer, IsAtDue}
use Rattle.billiards_cli.specs.declared.status.Status.{Status}
use Rattle.billiards_cli.specs.declared.status.Status.TheVariants.{Done, NotShown, Malformed, OutOfMemory}

-- an argument spells one word
pub one_spelling : (argument w v : List ℕ) → Spells argument w → Spells argument v → v ≡ w
one_spelling argument w v first second = digits_of-injective v w (sym second.digits ∙ first.digits)

-- an argument that spells a stable word is not refused
pub not_refused : (argument w : List ℕ) (reason : Reason) → Spells argument w → IsStable w → ¬ (RefusesWord argument reason)
not_refused argument w reason spells stable refused =
    let says : IsStableWord w = record { word = spells.is_word; stable = stable } in
    word_is_form.passes w reason says (subst (λ (bytes : List ℕ). RefusesWord bytes reason) spells.digits refused)

at_answer_is_due : (argument : List ℕ) (triangle : Angles) (status : Status) (text : List ℕ)
    → IsAtAnswer argument triangle status text → IsAtDue argument triangle status
at_answer_is_due argument triangle Done text answer =
    record { done = λ v spells clear. inl refl; refused = λ none. absurd (none (answer.word, answer.spells, answer.corridor.stable)) }
at_answer_is_due argument triangle NotShown text answer =
    record {
      done = λ v spells clear. absurd (answer.not_clear (subst (λ (x : List ℕ). AtTriangle triangle (λ a b. IsClearAtPoint x a b sure.gradient))
          (one_spelling argument answer.word v answer.spells spells) clear));
      refused = λ none. absurd (none (answer.word, answer.spells, answer.stable));
    }
at_answer_is_due argument triangle Malformed text answer =
    record { done = λ v spells clear. absurd (not_refused argument v answer.reason spells clear.stable answer.refused); refused = λ none. refl }
at_answer_is_due argument triangle OutOfMemory text answer =
    record { done = λ v spells clear. inr refl; refused = λ none. absurd (none (answer.word, answer.spells, answer.stable)) }
at_answer_is_due argument triangle status text answer = absurd answer

-- a right answer is one that the command may give, whatever the input
pub at_answer : (argument : List ℕ) (triangle : Angles) (left : Option (List ℕ)) (status : Status) (text : List ℕ)
    → IsAtAnswer argument triangle status text → IsAnswer (command_of (request.At argument triangle)) left left status text
at_answer argument triangle None status text right =
    record { input = []; may_be = tt; right = right; due = at_answer_is_due argument triangle status text right; read = tt }
at_answer argument triangle (Some input) status text right =
    record { input = input; may_be = refl; right = right; due = at_answer_is_due argument triangle status text right; read = tt }
