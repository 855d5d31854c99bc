-- The right answers of `unfold`.
use Rattle.std.proofs.Common.{ℕ, List, Option, refl, inl, inr}
use Rattle.billiards_cli.proofs.WordArguments.{word_not_refused}
use Rattle.billiards_cli.specs.Arguments.{Angles}
use Rattle.billiards_cli.specs.Commands.Unfold.{IsUnfoldAnswer, IsUnfoldDue}
use Rattle.billiards_cli.specs.Requests.{command_of}
use Rattle.billiards_cli.specs.Services.{IsAnswer}
use Rattle.billiards_cli.specs.declared.request.Request.TheVariants as request
use Rattle.billiards_cli.specs.declared.status.Status.{Status}
use Rattle.billiards_cli.specs.declared.status.Status.TheVariants.{Done, Malformed, OutOfMemory}
use Rattle.billiards_cli.proofs.Inputs.{some_input}

unfold_answer_is_due : (argument : List ℕ) (triangle : Angles) (status : Status) (text : List ℕ)
    → IsUnfoldAnswer argument triangle status text → IsUnfoldDue argument status
unfold_answer_is_due argument triangle Done text answer =
    record { done = λ w spells. inl refl; refused = λ none. absurd (none (answer.word, answer.spells)) }
unfold_answer_is_due argument triangle Malformed text answer =
    record { done = λ w spells. absurd (word_not_refused argument w answer.reason spells answer.refused); refused = λ none. refl }
unfold_answer_is_due argument triangle OutOfMemory text answer =
    record { done = λ w spells. inr refl; refused = λ none. absurd (none (answer.word, answer.spells)) }
unfold_answer_is_due argument triangle status text answer = absurd answer

-- a right answer is one that the command may give, whatever the input
pub unfold_answer : (argument : List ℕ) (triangle : Angles) (left : Option (List ℕ)) (status : Status) (text : List ℕ)
    → IsUnfoldAnswer argument triangle status text → IsAnswer (command_of (request.Unfold argument triangle)) left left status text
unfold_answer argument triangle left status text right =
    let some = some_input left in
    record { input = some.0; may_be = some.1; right = right; due = unfold_answer_is_due argument triangle status text right; read = tt }
