use Rattle.std.proofs.Common.{pos}
use Rattle.std.specs.List.{flat_map}
use Rattle.mcb_ends.proofs.Written.{AppendsPrefix-flat_map, Writes-failed}
use Rattle.billiards_cli.specs.Commands.Points.{corner_line}
use Rattle.billiards_cli.proofs.commands.points.writing.write_corners.Goals as goal

pub returns-in_err-write_corner-clause-text : goal.returns-in_err-write_corner-clause-text
returns-in_err-write_corner-clause-text g c =
    let k = g.K.Sink in
    let corners = c.args.corners.now in
    let old = k.written c.args.out.now in
    let new = k.written c.write_corner.new.out in
    let begun = AppendsPrefix-flat_map corner_line old (k.written c.loop-corner.out) new corners c.loop-corner.corner-index
    (record { triangle = 0; corner = 0; spot = record { x = pos 0; y = pos 0 } }) c.loop-corner-test.true c.loop-corner.invariant.text
    c.in_err-write_corner.ensures.text in
    Writes-failed old new c.from_residual.result (flat_map corner_line corners) c.from_residual.ensures.0 begun
