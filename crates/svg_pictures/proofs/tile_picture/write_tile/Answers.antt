use Rattle.std.proofs.Common.{◌++◌, pos}
use Rattle.std.specs.List.{flat_map}
use Rattle.mcb_ends.proofs.Written.{AppendsPrefix-begun, AppendsPrefix-then, Writes-then, Writes-failed}
use Rattle.svg_pictures.specs.Svg.{first_line, last_line}
use Rattle.svg_pictures.specs.TilePicture.{rectangle_line, tile_text}
use Rattle.svg_pictures.proofs.tile_picture.write_tile.Goals as goal

pub returns-in_err-write_first_line-clause-text : goal.returns-in_err-write_first_line-clause-text
returns-in_err-write_first_line-clause-text g c =
    let k = g.K.Sink in
    let patches = c.args.patches.now in
    let old = k.written c.args.out.now in
    let new = k.written c.write_first_line.new.out in
    let first = first_line (pos 0) (pos 0) (pos 1024) (pos 1024) in
    Writes-failed old new c.from_residual.result (tile_text patches) c.from_residual.ensures.0
    (AppendsPrefix-begun old new first (flat_map rectangle_line patches ++ last_line) c.in_err-write_first_line.ensures.text)

pub returns-in_err-write_rectangles-clause-text : goal.returns-in_err-write_rectangles-clause-text
returns-in_err-write_rectangles-clause-text g c =
    let k = g.K.Sink in
    let patches = c.args.patches.now in
    let old = k.written c.args.out.now in
    let head = k.written c.write_first_line.new.out in
    let new = k.written c.write_rectangles.new.out in
    let first = first_line (pos 0) (pos 0) (pos 1024) (pos 1024) in
    let all = flat_map rectangle_line patches in
    Writes-failed old new c.from_residual-in_err-write_rectangles.result (tile_text patches) c.from_residual-in_err-write_rectangles.ensures.0
    (AppendsPrefix-then old head new first (all ++ last_line) c.in_ok-write_first_line.ensures.text
    (AppendsPrefix-begun head new all last_line c.in_err-write_rectangles.ensures.text))

pub returns-clause-text : goal.returns-clause-text
returns-clause-text g c =
    let k = g.K.Sink in
    let patches = c.args.patches.now in
    let old = k.written c.args.out.now in
    let head = k.written c.write_first_line.new.out in
    let body = k.written c.write_rectangles.new.out in
    let new = k.written c.write_last_line.new.out in
    let first = first_line (pos 0) (pos 0) (pos 1024) (pos 1024) in
    let all = flat_map rectangle_line patches in
    Writes-then old head new c.write_last_line.result first (all ++ last_line) c.in_ok-write_first_line.ensures.text
    (Writes-then head body new c.write_last_line.result all last_line c.in_ok-write_rectangles.ensures.text c.write_last_line.ensures.text)
