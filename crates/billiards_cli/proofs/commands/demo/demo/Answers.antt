use Rattle.std.proofs.Common.{[], ap, ◌∙◌, refl}
use Rattle.billiards_cli.specs.Commands.Demo.{demo_text, verdict_text, status_with}
use Rattle.billiards_cli.specs.Services.{status_after}
use Rattle.billiards_cli.specs.declared.status.Status.{Status}
use Rattle.billiards_cli.specs.declared.status.Status.TheVariants.{OutOfMemory}
use Rattle.billiards_cli.proofs.DemoAnswers.{demo_answer, made_answer, made_is_written}
use Rattle.billiards_cli.proofs.Serving.{served}
use Rattle.billiards_cli.proofs.commands.demo.demo.Goals as goal

pub returns-in-Ok-clause-serves : goal.returns-in-Ok-clause-serves
returns-in-Ok-clause-serves g c = λ left faults.
    let k = c.args.number.now in
    let made = c.in-Ok.made in
    let is = c.in-Ok.ensures in
    let status = status_with made.left in
    let text = demo_text k made.nodes made.left (verdict_text made.verdict) in
    served _ _ _ status _ text c.write_made.result (made_is_written made.left)
    (demo_answer k left status text (made_answer k made.nodes made.left made.verdict is.file is.is_number is.cover is.right)) refl
    c.write_made.ensures.text c.write_made.ensures.cause
    (c.after_writing.ensures.after ∙ ap (λ (s : Status). status_after s c.write_made.result) c.status_with.ensures)

pub returns-in-Err-clause-serves : goal.returns-in-Err-clause-serves
returns-in-Err-clause-serves g c = λ left faults.
    record {
      leaves = record { answer = demo_answer c.args.number.now left OutOfMemory [] refl; unwritten = refl };
      counts = (refl, refl);
    }
