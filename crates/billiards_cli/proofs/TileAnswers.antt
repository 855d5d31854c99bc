-- The right answers of `tile`.
use Rattle.std.proofs.Common.{ℕ, List, Option, refl, subst}
use Rattle.orbit_tile.specs.Tile.{IsFull}
use Rattle.orbit_tile.specs.declared.TheConstants.{MAX_PATCHES}
use Rattle.billiards_cli.specs.Commands.Tile.{HasTile, IsTileAnswer, IsTileDue}
use Rattle.billiards_cli.specs.Requests.{command_of}
use Rattle.billiards_cli.specs.Services.{IsAnswer}
use Rattle.billiards_cli.specs.declared.request.Request.TheVariants as request
use Rattle.billiards_cli.specs.declared.status.Status.{Status}
use Rattle.billiards_cli.specs.declared.status.Status.TheVariants.{Done, Malformed, OutOfMemory, Full}
use Rattle.billiards_cli.proofs.AtAnswers.{one_spelling, not_refused}
use Rattle.billiards_cli.proofs.Inputs.{some_input}

tile_answer_is_due : (argument : List ℕ) (depth : ℕ) (status : Status) (text : List ℕ)
    → IsTileAnswer argument depth status text → IsTileDue argument depth status
tile_answer_is_due argument depth Done text answer =
    record {
      ends = λ w spells stable. subst (λ (x : List ℕ). HasTile x depth) (one_spelling argument w answer.word spells answer.spells) answer.drawn;
      refused = λ none. absurd (none (answer.word, answer.spells, answer.stable));
    }
tile_answer_is_due argument depth Full text answer =
    record {
      ends = λ w spells stable. subst (λ (x : List ℕ). IsFull x depth MAX_PATCHES) (one_spelling argument w answer.word spells answer.spells) answer.full;
      refused = λ none. absurd (none (answer.word, answer.spells, answer.stable));
    }
tile_answer_is_due argument depth Malformed text answer =
    record { ends = λ w spells stable. absurd (not_refused argument w answer.reason spells stable answer.refused); refused = λ none. refl }
tile_answer_is_due argument depth OutOfMemory text answer =
    record { ends = λ w spells stable. tt; refused = λ none. absurd (none (answer.word, answer.spells, answer.stable)) }
tile_answer_is_due argument depth status text answer = absurd answer

-- a right answer is one that the command may give, whatever the input
pub tile_answer : (argument : List ℕ) (depth : ℕ) (left : Option (List ℕ)) (status : Status) (text : List ℕ)
    → IsTileAnswer argument depth status text → IsAnswer (command_of (request.Tile argument depth)) left left status text
tile_answer argument depth left status text right =
    let some = some_input left in
    record { input = some.0; may_be = some.1; right = right; due = tile_answer_is_due argument depth status text right; read = tt }
