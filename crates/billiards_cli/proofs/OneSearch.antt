-- Right answers of `search` differ only by words that are between the slacks.
use Rattle.std.proofs.Common.{inl, inr, refl, sym, ap, ◌∙◌}
use Rattle.word_search.proofs.OneResult.{results_differ_between_lem}
use Rattle.billiards_cli.specs.Commands.Search.{search_text}
use Rattle.billiards_cli.specs.Laws.{SearchAnswersDifferBetween}
use Rattle.billiards_cli.specs.declared.status.Status.TheVariants.{Done, OutOfMemory}

pub search_answers_differ_between_lem : SearchAnswersDifferBetween
search_answers_differ_between_lem triangle bound text text' Done Done first second some more =
    elim (results_differ_between_lem _ _ bound first.words second.words first.result second.result) [
      | inl same ↦ inl (refl, first.text_is ∙ ap search_text same ∙ sym second.text_is)
      | inr between ↦
          inr (record { words = first.words; words' = second.words; text_is = first.text_is; text_is' = second.text_is; between = between })
    ]
search_answers_differ_between_lem triangle bound text text' status OutOfMemory first second some more = absurd (more refl)
search_answers_differ_between_lem triangle bound text text' OutOfMemory status first second some more = absurd (some refl)
search_answers_differ_between_lem triangle bound text text' Done status first second some more = absurd second
search_answers_differ_between_lem triangle bound text text' status status' first second some more = absurd first
