use Rattle.std.proofs.Common.{◌++◌}
use Rattle.mcb_ends.proofs.Written.{AppendsPrefix-begun, AppendsPrefix-then, Writes-then, Writes-failed}
use Rattle.svg_pictures.specs.BouncePoints.{drawn_bounces}
use Rattle.svg_pictures.specs.PathPicture.{points_line, path_text}
use Rattle.svg_pictures.specs.Svg.{last_line}
use Rattle.svg_pictures.specs.UnfoldingPicture.{frame_line, polygon_line}
use Rattle.svg_pictures.proofs.path_picture.write_drawing.Goals as goal

pub returns-in_err-write_frame-clause-text : goal.returns-in_err-write_frame-clause-text
returns-in_err-write_frame-clause-text g c =
    let k = g.K.Sink in
    let triangle = c.args.triangle.now in
    let points = drawn_bounces triangle c.args.bounces.now in
    let old = k.written c.args.out.now in
    let new = k.written c.write_frame.new.out in
    Writes-failed old new c.from_residual.result (path_text c.args.frame.now triangle points) c.from_residual.ensures.0
    (AppendsPrefix-begun old new (frame_line c.args.frame.now) (polygon_line triangle ++ (points_line points ++ last_line)) c.in_err-write_frame.ensures.text)

pub returns-in_err-write_polygon-clause-text : goal.returns-in_err-write_polygon-clause-text
returns-in_err-write_polygon-clause-text g c =
    let k = g.K.Sink in
    let triangle = c.args.triangle.now in
    let points = drawn_bounces triangle c.args.bounces.now in
    let old = k.written c.args.out.now in
    let head = k.written c.write_frame.new.out in
    let new = k.written c.write_polygon.new.out in
    Writes-failed old new c.from_residual-in_err-write_polygon.result (path_text c.args.frame.now triangle points)
    c.from_residual-in_err-write_polygon.ensures.0
    (AppendsPrefix-then old head new (frame_line c.args.frame.now) (polygon_line triangle ++ (points_line points ++ last_line))
    c.in_ok-write_frame.ensures.text
    (AppendsPrefix-begun head new (polygon_line triangle) (points_line points ++ last_line) c.in_err-write_polygon.ensures.text))

pub returns-in_err-write_bounces-clause-text : goal.returns-in_err-write_bounces-clause-text
returns-in_err-write_bounces-clause-text g c =
    let k = g.K.Sink in
    let triangle = c.args.triangle.now in
    let points = drawn_bounces triangle c.args.bounces.now in
    let old = k.written c.args.out.now in
    let head = k.written c.write_frame.new.out in
    let drawn = k.written c.write_polygon.new.out in
    let new = k.written c.write_bounces.new.out in
    Writes-failed old new c.from_residual-in_err-write_bounces.result (path_text c.args.frame.now triangle points)
    c.from_residual-in_err-write_bounces.ensures.0
    (AppendsPrefix-then old head new (frame_line c.args.frame.now) (polygon_line triangle ++ (points_line points ++ last_line))
    c.in_ok-write_frame.ensures.text
    (AppendsPrefix-then head drawn new (polygon_line triangle) (points_line points ++ last_line) c.in_ok-write_polygon.ensures.text
    (AppendsPrefix-begun drawn new (points_line points) last_line c.in_err-write_bounces.ensures.text)))

pub returns-clause-text : goal.returns-clause-text
returns-clause-text g c =
    let k = g.K.Sink in
    let triangle = c.args.triangle.now in
    let points = drawn_bounces triangle c.args.bounces.now in
    let old = k.written c.args.out.now in
    let head = k.written c.write_frame.new.out in
    let drawn = k.written c.write_polygon.new.out in
    let all = k.written c.write_bounces.new.out in
    let new = k.written c.write_last_line.new.out in
    let result = c.write_last_line.result in
    Writes-then old head new result (frame_line c.args.frame.now) (polygon_line triangle ++ (points_line points ++ last_line)) c.in_ok-write_frame.ensures.text
    (Writes-then head drawn new result (polygon_line triangle) (points_line points ++ last_line) c.in_ok-write_polygon.ensures.text
    (Writes-then drawn all new result (points_line points) last_line c.in_ok-write_bounces.ensures.text c.write_last_line.ensures.text))
