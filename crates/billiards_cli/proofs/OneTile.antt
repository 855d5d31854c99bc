-- How much freedom right answers of `tile` leave.
use Rattle.std.proofs.Common.{inl, inr, ℕ, List, refl, sym, ap, subst, ◌∙◌}
use Rattle.covering_file.proofs.CornerForms.{word_is_form}
use Rattle.orbit_tile.specs.Tile.{IsTile, IsFull}
use Rattle.orbit_tile.specs.declared.TheConstants.{MAX_PATCHES}
use Rattle.orbit_tile.proofs.Between.{tiles_differ_between_lem, full_differs_between_lem}
use Rattle.svg_pictures.specs.TilePicture.{tile_text}
use Rattle.billiards_cli.specs.Commands.Tile.{DrawsTile, OverfillsTile}
use Rattle.billiards_cli.specs.Laws.{HasBoxBetween, TileAnswersDifferBetween}
use Rattle.billiards_cli.specs.Refusals.{argument_text}
use Rattle.billiards_cli.specs.declared.status.Status.TheVariants.{Done, Malformed, OutOfMemory, Full}
use Rattle.billiards_cli.proofs.AtAnswers.{one_spelling, not_refused}

-- a picture was drawn, and the limit filled
drawn_and_full : (argument text text' : List ℕ) (depth : ℕ) → DrawsTile argument depth text → OverfillsTile argument depth text' → HasBoxBetween argument
drawn_and_full argument text text' depth first second =
    let same = one_spelling argument first.word second.word first.spells second.spells in
    let full = subst (λ (w : List ℕ). IsFull w depth MAX_PATCHES) same second.full in
    let between = full_differs_between_lem first.word depth MAX_PATCHES first.drawn.patches first.drawn.tile first.drawn.within full in
    record { word = first.word; spells = first.spells; box = between.0; between = between.1 }

pub tile_answers_differ_between_lem : TileAnswersDifferBetween
tile_answers_differ_between_lem argument text text' depth Done Done first second some more =
    let same = one_spelling argument first.word second.word first.spells second.spells in
    let tile = subst (λ (w : List ℕ). IsTile w depth second.drawn.patches) same second.drawn.tile in
    elim (tiles_differ_between_lem first.word depth first.drawn.patches second.drawn.patches first.drawn.tile tile) [
      | inl patches ↦ inl (refl, first.text_is ∙ ap tile_text patches ∙ sym second.text_is)
      | inr between ↦ inr (record { word = first.word; spells = first.spells; box = between.0; between = between.1 })
    ]
tile_answers_differ_between_lem argument text text' depth Full Full first second some more = inl (refl, first.text_is ∙ sym second.text_is)
tile_answers_differ_between_lem argument text text' depth Malformed Malformed first second some more =
    inl (refl, first.named ∙ ap argument_text (word_is_form.one_reason argument first.reason second.reason first.refused second.refused) ∙ sym second.named)
tile_answers_differ_between_lem argument text text' depth Done Full first second some more = inr (drawn_and_full argument text text' depth first second)
tile_answers_differ_between_lem argument text text' depth Full Done first second some more = inr (drawn_and_full argument text' text depth second first)
tile_answers_differ_between_lem argument text text' depth Done Malformed first second some more =
    absurd (not_refused argument first.word second.reason first.spells first.stable second.refused)
tile_answers_differ_between_lem argument text text' depth Malformed Done first second some more =
    absurd (not_refused argument second.word first.reason second.spells second.stable first.refused)
tile_answers_differ_between_lem argument text text' depth Full Malformed first second some more =
    absurd (not_refused argument first.word second.reason first.spells first.stable second.refused)
tile_answers_differ_between_lem argument text text' depth Malformed Full first second some more =
    absurd (not_refused argument second.word first.reason second.spells second.stable first.refused)
tile_answers_differ_between_lem argument text text' depth status OutOfMemory first second some more = absurd (more refl)
tile_answers_differ_between_lem argument text text' depth OutOfMemory status first second some more = absurd (some refl)
tile_answers_differ_between_lem argument text text' depth Done status first second some more = absurd second
tile_answers_differ_between_lem argument text text' depth Full status first second some more = absurd second
tile_answers_differ_between_lem argument text text' depth Malformed status first second some more = absurd second
tile_answers_differ_between_lem argument text text' depth status status' first second some more = absurd first
