use Rattle.std.proofs.Common.{codes, Some}
use Rattle.mcb_ends.proofs.Written.{AppendsPrefix-begun, Writes-then, Writes-failed}
use Rattle.billiards_cli.specs.Commands.Points.{shift_line, spot_line}
use Rattle.billiards_cli.proofs.commands.points.writing.write_shift_at.Goals as goal

pub returns-in_err-put-clause-text : goal.returns-in_err-put-clause-text
returns-in_err-put-clause-text g c =
    let k = g.K.Sink in
    let old = k.written c.args.out.now in
    let new = k.written c.put.new.out in
    Writes-failed old new c.from_residual.result (shift_line (Some c.args.spot)) c.from_residual.ensures.0
    (AppendsPrefix-begun old new (codes "shift ") (spot_line c.args.spot) c.in_err-put.ensures.text)

pub returns-clause-text : goal.returns-clause-text
returns-clause-text g c =
    let k = g.K.Sink in
    Writes-then (k.written c.args.out.now) (k.written c.put.new.out) (k.written c.write_spot.new.out) c.write_spot.result
    (codes "shift ") (spot_line c.args.spot) c.in_ok-put.ensures.text c.write_spot.ensures.text
