use Rattle.billiards_cli.proofs.Jobs.{generated_is_job}
use Rattle.billiards_cli.proofs.laws.generated_is_job.Goals as goal

pub returns : goal.returns
returns c = generated_is_job
