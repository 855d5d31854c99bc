use Rattle.std.proofs.Common.{◌≡◌, decimal}
use Rattle.std.specs.Io.KnownBytes.{Appends}
use Rattle.mcb_ends.specs.Bytes.{AppendsPrefix}
use Rattle.mcb_ends.proofs.Written.{AppendsPrefix-begun, Writes-then, Writes-failed}
use Rattle.billiards_cli.specs.Commands.Demo.{covered_text, demo_text, verdict_text}
use Rattle.billiards_cli.proofs.commands.demo.write_made.Goals as goal

pub returns-in_err-put_all-clause-text : goal.returns-in_err-put_all-clause-text
returns-in_err-put_all-clause-text g c =
    let made = c.args.made.now in
    let old = g.K.Sink.written c.args.out.now in
    let new = g.K.Sink.written c.put_all.new.out in
    let head = covered_text c.args.number.now made.nodes made.left in
    let line = verdict_text made.verdict in
    let job : c.digits.result.now ≡ decimal c.args.number.now = cc in
    let nodes : c.digits-2.result.now ≡ decimal made.nodes = cc in
    let left : c.digits-3.result.now ≡ decimal made.left = cc in
    let begun : AppendsPrefix old new head = rw (← job, ← nodes, ← left) c.in_err-put_all.ensures.text in
    Writes-failed old new c.from_residual.result (demo_text c.args.number.now made.nodes made.left line) c.from_residual.ensures.0
    (AppendsPrefix-begun old new head line begun)

pub returns-clause-text : goal.returns-clause-text
returns-clause-text g c =
    let made = c.args.made.now in
    let old = g.K.Sink.written c.args.out.now in
    let head = g.K.Sink.written c.put_all.new.out in
    let new = g.K.Sink.written c.write_verdict.new.out in
    let job : c.digits.result.now ≡ decimal c.args.number.now = cc in
    let nodes : c.digits-2.result.now ≡ decimal made.nodes = cc in
    let left : c.digits-3.result.now ≡ decimal made.left = cc in
    let written : Appends old head (covered_text c.args.number.now made.nodes made.left) = rw (← job, ← nodes, ← left) c.in_ok-put_all.ensures.text in
    Writes-then old head new c.write_verdict.result (covered_text c.args.number.now made.nodes made.left) (verdict_text made.verdict) written
    c.write_verdict.ensures.text
