use Rattle.std.proofs.Common.{◌∙◌, subst}
use Rattle.std.specs.Io.KnownBytes.{Appends}
use Rattle.std.specs.List.{flat_map}
use Rattle.mcb_ends.proofs.Written.{AppendsPrefix-flat_map, Writes-failed}
use Rattle.mcb_ends.specs.Bytes.{AppendsPrefix}
use Rattle.rational_polygon.specs.Outline.{Outline}
use Rattle.svg_pictures.specs.CoveringPicture.{outline_line}
use Rattle.svg_pictures.proofs.Texts.{Appends-next}
use Rattle.svg_pictures.proofs.outlines.write_outlines.Goals as goal

pub returns-in_err-write_outline-clause-text : goal.returns-in_err-write_outline-clause-text
returns-in_err-write_outline-clause-text g c =
    let k = g.K.Sink in
    let line = outline_line c.args.width in
    let polygons = c.args.polygons.now in
    let old = k.written c.args.out.now in
    let new = k.written c.write_outline.new.out in
    let now = k.written c.loop-polygon.out in
    let item = c.polygon-item in
    let cut = subst (λ (o : Outline). AppendsPrefix now new (line o)) item.is c.in_err-write_outline.ensures.text in
    let begun = AppendsPrefix-flat_map line old now new polygons c.loop-polygon.polygon-index item.result c.loop-polygon-test.true
    c.loop-polygon.invariant.text cut in
    Writes-failed old new c.from_residual.result (flat_map line polygons) c.from_residual.ensures.0 begun

pub loop-polygon-preserved : goal.loop-polygon-preserved
loop-polygon-preserved g c =
    let k = g.K.Sink in
    let line = outline_line c.args.width in
    let before = c.loop-polygon.invariant in
    let written = c.in_ok-write_outline.ensures in
    let item = c.polygon-item in
    let now = k.written c.loop-polygon.out in
    let new = k.written c.write_outline.new.out in
    record {
      text = Appends-next line (k.written c.args.out.now) now new c.args.polygons.now c.loop-polygon.polygon-index item.result c.loop-polygon-test.true
          before.text (subst (λ (o : Outline). Appends now new (line o)) item.is written.text);
      room = written.room ∙ before.room;
      faults = written.cause.kept ∙ before.faults;
    }
