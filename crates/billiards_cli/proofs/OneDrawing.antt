-- Right answers of `draw` leave no freedom.
use Rattle.std.proofs.Common.{◌≡◌, ℕ, List, refl, sym, ap₂, ◌∙◌, lit<}
use Rattle.covering_file.specs.declared.TheConstants.{MAX_NODES}
use Rattle.covering_file.proofs.OneOffence.{tree_file_offence_is_one}
use Rattle.svg_pictures.specs.CoveringPicture.{covering_picture}
use Rattle.billiards_cli.specs.Laws.{DrawAnswerIsOne}
use Rattle.billiards_cli.specs.Refusals.{refused_text}
use Rattle.billiards_cli.specs.declared.status.Status.TheVariants.{Done, Malformed, OutOfMemory, Full}
use Rattle.billiards_cli.proofs.DrawAnswers.{few_and_many}
use Rattle.billiards_cli.proofs.WholeFiles.{file_is_not_refused, one_file}

pub draw_answer_is_one_lem : DrawAnswerIsOne
draw_answer_is_one_lem input text text' Done Done first second some more =
    let one = one_file input first.heading second.heading first.tree second.tree first.file second.file in
    (refl, first.text_is ∙ ap₂ covering_picture one.0 one.1 ∙ sym second.text_is)
draw_answer_is_one_lem input text text' Full Full first second some more = (refl, first.text_is ∙ sym second.text_is)
draw_answer_is_one_lem input text text' Malformed Malformed first second some more =
    let one = tree_file_offence_is_one MAX_NODES (lit< tt) input first.line second.line first.reason second.reason first.refused second.refused in
    (refl, first.named ∙ ap₂ refused_text one.0 one.1 ∙ sym second.named)
draw_answer_is_one_lem input text text' Done Full first second some more =
    absurd (few_and_many input first.heading second.heading first.tree second.tree first.file second.file first.few second.many)
draw_answer_is_one_lem input text text' Full Done first second some more =
    absurd (few_and_many input second.heading first.heading second.tree first.tree second.file first.file second.few first.many)
draw_answer_is_one_lem input text text' Done Malformed first second some more =
    absurd (file_is_not_refused input first.heading first.tree second.line second.reason first.file second.refused)
draw_answer_is_one_lem input text text' Malformed Done first second some more =
    absurd (file_is_not_refused input second.heading second.tree first.line first.reason second.file first.refused)
draw_answer_is_one_lem input text text' Full Malformed first second some more =
    absurd (file_is_not_refused input first.heading first.tree second.line second.reason first.file second.refused)
draw_answer_is_one_lem input text text' Malformed Full first second some more =
    absurd (file_is_not_refused input second.heading second.tree first.line first.reason second.file first.refused)
draw_answer_is_one_lem input text text' status OutOfMemory first second some more = absurd (more refl)
draw_answer_is_one_lem input text text' OutOfMemory status first second some more = absurd (some refl)
draw_answer_is_one_lem input text text' Done status first second some more = absurd second
draw_answer_is_one_lem input text text' Full status first second some more = absurd second
draw_answer_is_one_lem input text text' Malformed status first second some more = absurd second
draw_answer_is_one_lem input text text' status status' first second some more = absurd first
