use Rattle.billiards_cli.proofs.OneJob.{job_answer_is_one_lem}
use Rattle.billiards_cli.proofs.laws.job_answer_is_one.Goals as goal

pub returns : goal.returns
returns c = job_answer_is_one_lem
