use Rattle.std.proofs.Common.{◌∙◌}
use Rattle.std.specs.List.{flat_map}
use Rattle.mcb_ends.proofs.Written.{AppendsPrefix-flat_map, Writes-failed}
use Rattle.svg_pictures.specs.UnfoldingPicture.{polygon_line}
use Rattle.svg_pictures.proofs.Blank.{blank_triangle}
use Rattle.svg_pictures.proofs.Texts.{Appends-next}
use Rattle.svg_pictures.proofs.unfolding_picture.write_polygons.Goals as goal

pub returns-in_err-write_polygon-clause-text : goal.returns-in_err-write_polygon-clause-text
returns-in_err-write_polygon-clause-text g c =
    let k = g.K.Sink in
    let triangles = c.args.triangles.now in
    let old = k.written c.args.out.now in
    let new = k.written c.write_polygon.new.out in
    let begun = AppendsPrefix-flat_map polygon_line old (k.written c.loop-triangle.out) new triangles c.loop-triangle.triangle-index
    blank_triangle c.loop-triangle-test.true c.loop-triangle.invariant.text c.in_err-write_polygon.ensures.text in
    Writes-failed old new c.from_residual.result (flat_map polygon_line triangles) c.from_residual.ensures.0 begun

pub loop-triangle-preserved : goal.loop-triangle-preserved
loop-triangle-preserved g c =
    let k = g.K.Sink in
    let before = c.loop-triangle.invariant in
    let written = c.in_ok-write_polygon.ensures in
    record {
      text = Appends-next polygon_line (k.written c.args.out.now) (k.written c.loop-triangle.out) (k.written c.write_polygon.new.out)
          c.args.triangles.now c.loop-triangle.triangle-index blank_triangle c.loop-triangle-test.true before.text written.text;
      room = written.room ∙ before.room;
      faults = written.cause.kept ∙ before.faults;
    }
