use Rattle.std.proofs.Common.{◌≡◌, decimal}
use Rattle.billiards_cli.specs.Jobs.{near_side, far_side}
use Rattle.billiards_cli.proofs.JobAnswers.{job_text-pieces}
use Rattle.billiards_cli.proofs.commands.job.write_job.Goals as goal

pub returns-clause-text : goal.returns-clause-text
returns-clause-text g c =
    let k = c.args.number.now in
    let near : c.digits-near.result.now ≡ decimal (near_side k) = cc in
    let far : c.digits-far.result.now ≡ decimal (far_side k) = cc in
    rw job_text-pieces (rw (← near, ← far) c.put_all.ensures.text)
