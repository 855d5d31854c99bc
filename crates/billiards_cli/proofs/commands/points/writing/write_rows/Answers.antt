use Rattle.std.proofs.Common.{◌++◌, length}
use Rattle.std.specs.List.{flat_map}
use Rattle.mcb_ends.proofs.Written.{AppendsPrefix-begun, AppendsPrefix-then, Writes-then, Writes-failed}
use Rattle.billiards_cli.specs.Commands.Points.{points_text, corner_line, shift_line}
use Rattle.billiards_cli.specs.EndLine.{end_text}
use Rattle.billiards_cli.proofs.commands.points.writing.write_rows.Goals as goal

pub returns-in_err-write_corners-clause-text : goal.returns-in_err-write_corners-clause-text
returns-in_err-write_corners-clause-text g c =
    let k = g.K.Sink in
    let corners = c.args.corners.now in
    let old = k.written c.args.out.now in
    let new = k.written c.write_corners.new.out in
    let behind = shift_line c.args.shift ++ end_text (length corners) in
    Writes-failed old new c.from_residual.result (points_text corners c.args.shift) c.from_residual.ensures.0
    (AppendsPrefix-begun old new (flat_map corner_line corners) behind c.in_err-write_corners.ensures.text)

pub returns-in_err-write_shift-clause-text : goal.returns-in_err-write_shift-clause-text
returns-in_err-write_shift-clause-text g c =
    let k = g.K.Sink in
    let corners = c.args.corners.now in
    let shift = c.args.shift in
    let old = k.written c.args.out.now in
    let head = k.written c.write_corners.new.out in
    let new = k.written c.write_shift.new.out in
    let end = end_text (length corners) in
    Writes-failed old new c.from_residual-in_err-write_shift.result (points_text corners shift) c.from_residual-in_err-write_shift.ensures.0
    (AppendsPrefix-then old head new (flat_map corner_line corners) (shift_line shift ++ end) c.in_ok-write_corners.ensures.text
    (AppendsPrefix-begun head new (shift_line shift) end c.in_err-write_shift.ensures.text))

pub returns-clause-text : goal.returns-clause-text
returns-clause-text g c =
    let k = g.K.Sink in
    let corners = c.args.corners.now in
    let shift = c.args.shift in
    let old = k.written c.args.out.now in
    let head = k.written c.write_corners.new.out in
    let body = k.written c.write_shift.new.out in
    let new = k.written c.write_end.new.out in
    let end = end_text (length corners) in
    Writes-then old head new c.write_end.result (flat_map corner_line corners) (shift_line shift ++ end) c.in_ok-write_corners.ensures.text
    (Writes-then head body new c.write_end.result (shift_line shift) end c.in_ok-write_shift.ensures.text c.write_end.ensures.text)
