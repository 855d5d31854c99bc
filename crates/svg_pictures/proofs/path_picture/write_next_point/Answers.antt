use Rattle.std.proofs.Common.{codes, subst}
use Rattle.mcb_ends.specs.Bytes.{Writes}
use Rattle.mcb_ends.proofs.Written.{AppendsPrefix-begun, Writes-then, Writes-failed}
use Rattle.svg_pictures.specs.declared.picture_point.PicturePoint.{PicturePoint}
use Rattle.svg_pictures.specs.BouncePoints.{point_on, next_point_text}
use Rattle.svg_pictures.specs.PathPicture.{point_text}
use Rattle.svg_pictures.proofs.path_picture.write_next_point.Goals as goal

pub returns-in_err-put-clause-text : goal.returns-in_err-put-clause-text
returns-in_err-put-clause-text g c =
    let k = g.K.Sink in
    let triangle = c.args.triangle.now in
    let bounce = c.args.bounce.now in
    let old = k.written c.args.out.now in
    let new = k.written c.put.new.out in
    Writes-failed old new c.from_residual.result (next_point_text triangle bounce) c.from_residual.ensures.0
    (AppendsPrefix-begun old new (codes " ") (point_text (point_on triangle bounce)) c.in_err-put.ensures.text)

pub returns-clause-text : goal.returns-clause-text
returns-clause-text g c =
    let k = g.K.Sink in
    let point = point_on c.args.triangle.now c.args.bounce.now in
    let old = k.written c.args.out.now in
    let head = k.written c.put.new.out in
    let new = k.written c.write_point.new.out in
    Writes-then old head new c.write_point.result (codes " ") (point_text point) c.in_ok-put.ensures.text
    (subst (λ (p : PicturePoint). Writes head new c.write_point.result (point_text p)) c.bounce_point.ensures c.write_point.ensures.text)
