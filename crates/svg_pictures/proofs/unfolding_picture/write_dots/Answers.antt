use Rattle.std.proofs.Common.{◌∙◌}
use Rattle.svg_pictures.proofs.Blank.{blank_point}
use Rattle.std.specs.List.{flat_map}
use Rattle.mcb_ends.proofs.Written.{AppendsPrefix-flat_map, Writes-failed}
use Rattle.svg_pictures.specs.UnfoldingPicture.{dot_line}
use Rattle.svg_pictures.proofs.Texts.{Appends-next}
use Rattle.svg_pictures.proofs.unfolding_picture.write_dots.Goals as goal

pub returns-in_err-write_dot-clause-text : goal.returns-in_err-write_dot-clause-text
returns-in_err-write_dot-clause-text g c =
    let k = g.K.Sink in
    let line = dot_line c.args.colour.now in
    let points = c.args.points.now in
    let old = k.written c.args.out.now in
    let new = k.written c.write_dot.new.out in
    let begun = AppendsPrefix-flat_map line old (k.written c.loop-point.out) new points c.loop-point.point-index
    blank_point c.loop-point-test.true c.loop-point.invariant.text c.in_err-write_dot.ensures.text in
    Writes-failed old new c.from_residual.result (flat_map line points) c.from_residual.ensures.0 begun

pub loop-point-preserved : goal.loop-point-preserved
loop-point-preserved g c =
    let k = g.K.Sink in
    let before = c.loop-point.invariant in
    let written = c.in_ok-write_dot.ensures in
    record {
      text = Appends-next (dot_line c.args.colour.now) (k.written c.args.out.now) (k.written c.loop-point.out) (k.written c.write_dot.new.out)
          c.args.points.now c.loop-point.point-index blank_point c.loop-point-test.true before.text written.text;
      room = written.room ∙ before.room;
      faults = written.cause.kept ∙ before.faults;
    }
