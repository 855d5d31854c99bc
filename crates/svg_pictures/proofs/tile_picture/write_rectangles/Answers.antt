use Rattle.std.proofs.Common.{subst}
use Rattle.std.specs.List.{flat_map}
use Rattle.mcb_ends.proofs.Written.{AppendsPrefix-flat_map, Writes-failed}
use Rattle.mcb_ends.specs.Bytes.{AppendsPrefix}
use Rattle.orbit_tile.specs.declared.patch.Patch.{Patch}
use Rattle.svg_pictures.specs.TilePicture.{rectangle_line}
use Rattle.svg_pictures.proofs.tile_picture.write_rectangles.Goals as goal

pub returns-in_err-write_rectangle-clause-text : goal.returns-in_err-write_rectangle-clause-text
returns-in_err-write_rectangle-clause-text g c =
    let k = g.K.Sink in
    let patches = c.args.patches.now in
    let old = k.written c.args.out.now in
    let new = k.written c.write_rectangle.new.out in
    let now = k.written c.loop-patch.out in
    let item = c.patch-item in
    let cut = subst (λ (p : Patch). AppendsPrefix now new (rectangle_line p)) item.is c.in_err-write_rectangle.ensures.text in
    let begun = AppendsPrefix-flat_map rectangle_line old now new patches c.loop-patch.patch-index item.result c.loop-patch-test.true
    c.loop-patch.invariant.text cut in
    Writes-failed old new c.from_residual.result (flat_map rectangle_line patches) c.from_residual.ensures.0 begun
