use Rattle.covering_file.specs.Header.{corner_line}
use Rattle.covering_file.proofs.Texts.{cut_in_list}
use Rattle.covering_file.proofs.writing.write_corners.Goals as goal

pub returns-in_err-write_corner-clause-text : goal.returns-in_err-write_corner-clause-text
returns-in_err-write_corner-clause-text g c =
    let k = g.K.Sink in
    cut_in_list corner_line (k.written c.args.out.now) (k.written c.loop-corner.out)
    (k.written c.write_corner.new.out) c.from_residual.result c.args.corners.now c.loop-corner.corner-index
    (0, 0) c.loop-corner-test.true c.loop-corner.invariant.text c.in_err-write_corner.ensures.text c.from_residual.ensures.0
