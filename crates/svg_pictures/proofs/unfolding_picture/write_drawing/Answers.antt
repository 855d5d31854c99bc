use Rattle.std.proofs.Common.{◌++◌, codes}
use Rattle.std.specs.List.{flat_map}
use Rattle.mcb_ends.proofs.Written.{AppendsPrefix-begun, AppendsPrefix-then, Writes-then, Writes-failed}
use Rattle.svg_pictures.specs.Svg.{last_line}
use Rattle.svg_pictures.specs.UnfoldingPicture.{frame_line, polygon_line, dot_line, unfolding_text}
use Rattle.svg_pictures.proofs.unfolding_picture.write_drawing.Goals as goal

pub returns-in_err-write_frame-clause-text : goal.returns-in_err-write_frame-clause-text
returns-in_err-write_frame-clause-text g c =
    let k = g.K.Sink in
    let frame = c.args.frame.now in
    let triangles = c.args.triangles.now in
    let uppers = c.args.uppers.now in
    let lowers = c.args.lowers.now in
    let old = k.written c.args.out.now in
    let new = k.written c.write_frame.new.out in
    let polygons = flat_map polygon_line triangles in
    let blue = flat_map (dot_line (codes "blue")) uppers in
    let red = flat_map (dot_line (codes "red")) lowers in
    Writes-failed old new c.from_residual.result (unfolding_text frame triangles uppers lowers) c.from_residual.ensures.0
    (AppendsPrefix-begun old new (frame_line frame) (polygons ++ (blue ++ (red ++ last_line))) c.in_err-write_frame.ensures.text)

pub returns-in_err-write_polygons-clause-text : goal.returns-in_err-write_polygons-clause-text
returns-in_err-write_polygons-clause-text g c =
    let k = g.K.Sink in
    let frame = c.args.frame.now in
    let triangles = c.args.triangles.now in
    let uppers = c.args.uppers.now in
    let lowers = c.args.lowers.now in
    let old = k.written c.args.out.now in
    let head = k.written c.write_frame.new.out in
    let new = k.written c.write_polygons.new.out in
    let polygons = flat_map polygon_line triangles in
    let blue = flat_map (dot_line (codes "blue")) uppers in
    let red = flat_map (dot_line (codes "red")) lowers in
    Writes-failed old new c.from_residual-in_err-write_polygons.result (unfolding_text frame triangles uppers lowers)
    c.from_residual-in_err-write_polygons.ensures.0
    (AppendsPrefix-then old head new (frame_line frame) (polygons ++ (blue ++ (red ++ last_line))) c.in_ok-write_frame.ensures.text
    (AppendsPrefix-begun head new polygons (blue ++ (red ++ last_line)) c.in_err-write_polygons.ensures.text))

pub returns-in_err-write_dots-clause-text : goal.returns-in_err-write_dots-clause-text
returns-in_err-write_dots-clause-text g c =
    let k = g.K.Sink in
    let frame = c.args.frame.now in
    let triangles = c.args.triangles.now in
    let uppers = c.args.uppers.now in
    let lowers = c.args.lowers.now in
    let old = k.written c.args.out.now in
    let head = k.written c.write_frame.new.out in
    let drawn = k.written c.write_polygons.new.out in
    let new = k.written c.write_dots.new.out in
    let polygons = flat_map polygon_line triangles in
    let blue = flat_map (dot_line (codes "blue")) uppers in
    let red = flat_map (dot_line (codes "red")) lowers in
    Writes-failed old new c.from_residual-in_err-write_dots.result (unfolding_text frame triangles uppers lowers)
    c.from_residual-in_err-write_dots.ensures.0
    (AppendsPrefix-then old head new (frame_line frame) (polygons ++ (blue ++ (red ++ last_line))) c.in_ok-write_frame.ensures.text
    (AppendsPrefix-then head drawn new polygons (blue ++ (red ++ last_line)) c.in_ok-write_polygons.ensures.text
    (AppendsPrefix-begun drawn new blue (red ++ last_line) c.in_err-write_dots.ensures.text)))

pub returns-in_err-write_dots-2-clause-text : goal.returns-in_err-write_dots-2-clause-text
returns-in_err-write_dots-2-clause-text g c =
    let k = g.K.Sink in
    let frame = c.args.frame.now in
    let triangles = c.args.triangles.now in
    let uppers = c.args.uppers.now in
    let lowers = c.args.lowers.now in
    let old = k.written c.args.out.now in
    let head = k.written c.write_frame.new.out in
    let drawn = k.written c.write_polygons.new.out in
    let dotted = k.written c.write_dots.new.out in
    let new = k.written c.write_dots-2.new.out in
    let polygons = flat_map polygon_line triangles in
    let blue = flat_map (dot_line (codes "blue")) uppers in
    let red = flat_map (dot_line (codes "red")) lowers in
    Writes-failed old new c.from_residual-in_err-write_dots-2.result (unfolding_text frame triangles uppers lowers)
    c.from_residual-in_err-write_dots-2.ensures.0
    (AppendsPrefix-then old head new (frame_line frame) (polygons ++ (blue ++ (red ++ last_line))) c.in_ok-write_frame.ensures.text
    (AppendsPrefix-then head drawn new polygons (blue ++ (red ++ last_line)) c.in_ok-write_polygons.ensures.text
    (AppendsPrefix-then drawn dotted new blue (red ++ last_line) c.in_ok-write_dots.ensures.text
    (AppendsPrefix-begun dotted new red last_line c.in_err-write_dots-2.ensures.text))))

pub returns-clause-text : goal.returns-clause-text
returns-clause-text g c =
    let k = g.K.Sink in
    let frame = c.args.frame.now in
    let triangles = c.args.triangles.now in
    let uppers = c.args.uppers.now in
    let lowers = c.args.lowers.now in
    let old = k.written c.args.out.now in
    let head = k.written c.write_frame.new.out in
    let drawn = k.written c.write_polygons.new.out in
    let dotted = k.written c.write_dots.new.out in
    let all = k.written c.write_dots-2.new.out in
    let new = k.written c.write_last_line.new.out in
    let result = c.write_last_line.result in
    let polygons = flat_map polygon_line triangles in
    let blue = flat_map (dot_line (codes "blue")) uppers in
    let red = flat_map (dot_line (codes "red")) lowers in
    Writes-then old head new result (frame_line frame) (polygons ++ (blue ++ (red ++ last_line))) c.in_ok-write_frame.ensures.text
    (Writes-then head drawn new result polygons (blue ++ (red ++ last_line)) c.in_ok-write_polygons.ensures.text
    (Writes-then drawn dotted new result blue (red ++ last_line) c.in_ok-write_dots.ensures.text
    (Writes-then dotted all new result red last_line c.in_ok-write_dots-2.ensures.text c.write_last_line.ensures.text)))
