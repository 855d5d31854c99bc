-- The right answers of `path`.
use Rattle.std.proofs.Common.{ℕ, List, Option, refl, subst, inl, inr}
use Rattle.edge_words.specs.Reading.{Spells}
use Rattle.edge_words.specs.Stable.{IsStable}
use Rattle.gradient_bounds.specs.Clear.{IsClearAtPoint}
use Rattle.bounce_path.specs.Path.{room_for_path}
use Rattle.covering_file.specs.CornerForms.{RefusesWord}
use Rattle.line_grammar.specs.declared.reason.Reason.{Reason}
use Rattle.billiards_cli.specs.Arguments.{Angles}
use Rattle.billiards_cli.specs.Commands.At.{AtTriangle}
use Rattle.billiards_cli.specs.Commands.Path.{ShowsNoPath, IsPathAnswer, IsDrawnPathAnswer, IsPathDue}
use Rattle.billiards_cli.specs.Requests.{command_of}
use Rattle.billiards_cli.specs.Services.{IsAnswer}
use Rattle.billiards_cli.specs.declared.request.Request.TheVariants as request
use Rattle.billiards_cli.specs.declared.status.Status.{Status}
use Rattle.billiards_cli.specs.declared.status.Status.TheVariants.{Done, NotShown, Malformed, OutOfMemory}
use Rattle.billiards_cli.proofs.AtAnswers.{one_spelling, not_refused}
use Rattle.billiards_cli.proofs.Inputs.{some_input}

-- ---- the statuses

done_is_due : (argument w : List ℕ) (triangle : Angles) → Spells argument w → IsStable w → IsPathDue argument triangle Done
done_is_due argument w triangle spells stable = record { done = λ v s clear. inl refl; refused = λ none. absurd (none (w, spells, stable)) }

not_shown_is_due : (argument : List ℕ) (triangle : Angles) (text : List ℕ) → ShowsNoPath argument triangle text → IsPathDue argument triangle NotShown
not_shown_is_due argument triangle text answer = record {
  done = λ v spells clear. absurd (answer.not_clear (subst (λ (x : List ℕ). AtTriangle triangle (λ a b. IsClearAtPoint x a b room_for_path))
      (one_spelling argument answer.word v answer.spells spells) clear));
  refused = λ none. absurd (none (answer.word, answer.spells, answer.stable));
}

malformed_is_due : (argument : List ℕ) (triangle : Angles) (reason : Reason) → RefusesWord argument reason → IsPathDue argument triangle Malformed
malformed_is_due argument triangle reason refused =
    record { done = λ v spells clear. absurd (not_refused argument v reason spells clear.stable refused); refused = λ none. refl }

wanting_is_due : (argument w : List ℕ) (triangle : Angles) → Spells argument w → IsStable w → IsPathDue argument triangle OutOfMemory
wanting_is_due argument w triangle spells stable = record { done = λ v s clear. inr refl; refused = λ none. absurd (none (w, spells, stable)) }

-- ---- the answers

path_answer_is_due : (argument : List ℕ) (triangle : Angles) (status : Status) (text : List ℕ)
    → IsPathAnswer argument triangle status text → IsPathDue argument triangle status
path_answer_is_due argument triangle Done text answer = done_is_due argument answer.has.word triangle answer.has.spells answer.has.is.stable
path_answer_is_due argument triangle NotShown text answer = not_shown_is_due argument triangle text answer
path_answer_is_due argument triangle Malformed text answer = malformed_is_due argument triangle answer.reason answer.refused
path_answer_is_due argument triangle OutOfMemory text answer = wanting_is_due argument answer.word triangle answer.spells answer.stable
path_answer_is_due argument triangle status text answer = absurd answer

drawn_answer_is_due : (argument : List ℕ) (triangle : Angles) (status : Status) (text : List ℕ)
    → IsDrawnPathAnswer argument triangle status text → IsPathDue argument triangle status
drawn_answer_is_due argument triangle Done text answer = done_is_due argument answer.has.word triangle answer.has.spells answer.has.is.stable
drawn_answer_is_due argument triangle NotShown text answer = not_shown_is_due argument triangle text answer
drawn_answer_is_due argument triangle Malformed text answer = malformed_is_due argument triangle answer.reason answer.refused
drawn_answer_is_due argument triangle OutOfMemory text answer = wanting_is_due argument answer.word triangle answer.spells answer.stable
drawn_answer_is_due argument triangle status text answer = absurd answer

-- a right answer is one that the command may give, whatever the input
pub path_answer : (argument : List ℕ) (triangle : Angles) (left : Option (List ℕ)) (status : Status) (text : List ℕ)
    → IsPathAnswer argument triangle status text → IsAnswer (command_of (request.Path argument triangle)) left left status text
path_answer argument triangle left status text right =
    let some = some_input left in
    record { input = some.0; may_be = some.1; right = right; due = path_answer_is_due argument triangle status text right; read = tt }

pub drawn_path_answer : (argument : List ℕ) (triangle : Angles) (left : Option (List ℕ)) (status : Status) (text : List ℕ)
    → IsDrawnPathAnswer argument triangle status text → IsAnswer (command_of (request.DrawnPath argument triangle)) left left status text
drawn_path_answer argument triangle left status text right =
    let some = some_input left in
    record { input = some.0; may_be = some.1; right = right; due = drawn_answer_is_due argument triangle status text right; read = tt }
