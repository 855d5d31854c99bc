-- Right answers of `upgrade` leave no freedom.
use Rattle.std.proofs.Common.{refl, sym, ap₂, ◌∙◌, lit<}
use Rattle.covering_file.specs.Header.{Heading}
use Rattle.covering_file.specs.Tree.{Tree, file_text}
use Rattle.covering_file.specs.TreeFile.{upgraded}
use Rattle.covering_file.specs.declared.TheConstants.{MAX_NODES}
use Rattle.covering_file.proofs.OneOffence.{tree_file_offence_is_one}
use Rattle.billiards_cli.specs.Laws.{UpgradeAnswerIsOne}
use Rattle.billiards_cli.specs.Refusals.{refused_text}
use Rattle.billiards_cli.specs.declared.status.Status.TheVariants.{Done, Malformed, OutOfMemory}
use Rattle.billiards_cli.proofs.WholeFiles.{file_is_not_refused, one_file}

pub upgrade_answer_is_one_lem : UpgradeAnswerIsOne
upgrade_answer_is_one_lem version input text text' Done Done first second some more =
    let one = one_file input first.heading second.heading first.tree second.tree first.file second.file in
    (refl, first.text_is ∙ ap₂ (λ (h : Heading) (t : Tree). file_text (upgraded version h) t) one.0 one.1 ∙ sym second.text_is)
upgrade_answer_is_one_lem version input text text' Malformed Malformed first second some more =
    let one = tree_file_offence_is_one MAX_NODES (lit< tt) input first.line second.line first.reason second.reason first.refused second.refused in
    (refl, first.named ∙ ap₂ refused_text one.0 one.1 ∙ sym second.named)
upgrade_answer_is_one_lem version input text text' Done Malformed first second some more =
    absurd (file_is_not_refused input first.heading first.tree second.line second.reason first.file second.refused)
upgrade_answer_is_one_lem version input text text' Malformed Done first second some more =
    absurd (file_is_not_refused input second.heading second.tree first.line first.reason second.file first.refused)
upgrade_answer_is_one_lem version input text text' status OutOfMemory first second some more = absurd (more refl)
upgrade_answer_is_one_lem version input text text' OutOfMemory status first second some more = absurd (some refl)
upgrade_answer_is_one_lem version input text text' Done status first second some more = absurd second
upgrade_answer_is_one_lem version input text text' Malformed status first second some more = absurd second
upgrade_answer_is_one_lem version input text text' status status' first second some more = absurd first
