use Rattle.covering_file.proofs.HeaderLaws.{header_offence_is_one, job_offence_is_one}
use Rattle.covering_file.proofs.laws.offence_is_one.Goals as goal

pub returns-clause-header : goal.returns-clause-header
returns-clause-header c = header_offence_is_one

pub returns-clause-job : goal.returns-clause-job
returns-clause-job c = job_offence_is_one
