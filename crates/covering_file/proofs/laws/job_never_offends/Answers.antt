use Rattle.covering_file.proofs.HeaderLaws.{job_never_offends}
use Rattle.covering_file.proofs.laws.job_never_offends.Goals as goal

pub returns : goal.returns
returns c = job_never_offends
