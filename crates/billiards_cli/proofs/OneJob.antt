-- Right answers of `job` leave no freedom.
use Rattle.std.proofs.Common.{refl, sym, ◌∙◌}
use Rattle.billiards_cli.specs.Laws.{JobAnswerIsOne}
use Rattle.billiards_cli.specs.declared.status.Status.TheVariants.{Done}

pub job_answer_is_one_lem : JobAnswerIsOne
job_answer_is_one_lem k text text' Done Done first second = (refl, first ∙ sym second)
job_answer_is_one_lem k text text' Done status first second = absurd second
job_answer_is_one_lem k text text' status status' first second = absurd first
