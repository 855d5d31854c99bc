use Rattle.std.proofs.Common.{◌++◌, codes}
use Rattle.mcb_ends.proofs.Written.{AppendsPrefix-begun, Writes-then, Writes-failed}
use Rattle.svg_pictures.specs.CoveringPicture.{corner_text}
use Rattle.svg_pictures.proofs.outlines.write_next_corner.Goals as goal

pub returns-in_err-put-clause-text : goal.returns-in_err-put-clause-text
returns-in_err-put-clause-text g c =
    let k = g.K.Sink in
    let text = corner_text c.args.grid c.args.corner in
    let old = k.written c.args.out.now in
    let new = k.written c.put.new.out in
    Writes-failed old new c.from_residual.result (codes " " ++ text) c.from_residual.ensures.0
    (AppendsPrefix-begun old new (codes " ") text c.in_err-put.ensures.text)

pub returns-clause-text : goal.returns-clause-text
returns-clause-text g c =
    let k = g.K.Sink in
    let old = k.written c.args.out.now in
    let head = k.written c.put.new.out in
    let new = k.written c.write_corner.new.out in
    Writes-then old head new c.write_corner.result (codes " ") (corner_text c.args.grid c.args.corner) c.in_ok-put.ensures.text c.write_corner.ensures.text
