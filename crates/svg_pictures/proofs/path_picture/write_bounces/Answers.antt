use Rattle.std.proofs.Common.{◌++◌, codes}
use Rattle.mcb_ends.proofs.Written.{AppendsPrefix-begun, AppendsPrefix-then, Writes-then, Writes-failed}
use Rattle.svg_pictures.specs.BouncePoints.{drawn_bounces}
use Rattle.svg_pictures.specs.PathPicture.{points_text, points_line}
use Rattle.svg_pictures.proofs.path_picture.write_bounces.Goals as goal

pub returns-in_err-put-clause-text : goal.returns-in_err-put-clause-text
returns-in_err-put-clause-text g c =
    let k = g.K.Sink in
    let points = drawn_bounces c.args.triangle.now c.args.bounces.now in
    let old = k.written c.args.out.now in
    let new = k.written c.put.new.out in
    Writes-failed old new c.from_residual.result (points_line points) c.from_residual.ensures.0
    (AppendsPrefix-begun old new (codes "<polygon points=\"") (points_text points ++ codes "\" fill=\"none\" stroke=\"red\"/>\n") c.in_err-put.ensures.text)

pub returns-in_err-write_points-clause-text : goal.returns-in_err-write_points-clause-text
returns-in_err-write_points-clause-text g c =
    let k = g.K.Sink in
    let points = drawn_bounces c.args.triangle.now c.args.bounces.now in
    let old = k.written c.args.out.now in
    let head = k.written c.put.new.out in
    let new = k.written c.write_points.new.out in
    let end = codes "\" fill=\"none\" stroke=\"red\"/>\n" in
    Writes-failed old new c.from_residual-in_err-write_points.result (points_line points) c.from_residual-in_err-write_points.ensures.0
    (AppendsPrefix-then old head new (codes "<polygon points=\"") (points_text points ++ end) c.in_ok-put.ensures.text
    (AppendsPrefix-begun head new (points_text points) end c.in_err-write_points.ensures.text))

pub returns-clause-text : goal.returns-clause-text
returns-clause-text g c =
    let k = g.K.Sink in
    let points = drawn_bounces c.args.triangle.now c.args.bounces.now in
    let old = k.written c.args.out.now in
    let head = k.written c.put.new.out in
    let all = k.written c.write_points.new.out in
    let new = k.written c.put-2.new.out in
    let end = codes "\" fill=\"none\" stroke=\"red\"/>\n" in
    Writes-then old head new c.put-2.result (codes "<polygon points=\"") (points_text points ++ end) c.in_ok-put.ensures.text
    (Writes-then head all new c.put-2.result (points_text points) end c.in_ok-write_points.ensures.text c.put-2.ensures.text)
