use Rattle.std.proofs.Common.{refl}
use Rattle.covering_file.specs.Header.{job_text}
use Rattle.billiards_cli.specs.Jobs.{job_heading}
use Rattle.billiards_cli.specs.declared.status.Status.TheVariants.{Done}
use Rattle.billiards_cli.proofs.JobAnswers.{job_answer}
use Rattle.billiards_cli.proofs.Serving.{served}
use Rattle.billiards_cli.proofs.commands.job.job.Goals as goal

pub returns-clause-serves : goal.returns-clause-serves
returns-clause-serves g c = λ left faults.
    let k = c.args.number.now in
    served _ _ _ Done _ (job_text (job_heading k)) c.write_job.result tt (job_answer k left) refl c.write_job.ensures.text c.write_job.ensures.cause
    c.after_writing.ensures.after
