use Rattle.std.proofs.Common.{◌≡◌, List, ℕ, ◌∷◌, ◌++◌, ap, sym, subst, codes}
use Rattle.std.specs.List.{flat_map}
use Rattle.mcb_ends.specs.Bytes.{Writes}
use Rattle.mcb_ends.proofs.Written.{Writes-then}
use Rattle.bounce_path.specs.declared.bounce.Bounce.{Bounce}
use Rattle.svg_pictures.specs.declared.picture_point.PicturePoint.{PicturePoint}
use Rattle.svg_pictures.specs.BouncePoints.{point_on, drawn_bounces, next_point_text}
use Rattle.svg_pictures.specs.PathPicture.{point_text, points_text}
use Rattle.svg_pictures.proofs.BouncePoints.{next_texts}
use Rattle.svg_pictures.proofs.path_picture.write_points.Goals as goal

pub returns-in_ok-write_point-in-Some-clause-text : goal.returns-in_ok-write_point-in-Some-clause-text
returns-in_ok-write_point-in-Some-clause-text g c =
    let k = g.K.Sink in
    let triangle = c.args.triangle.now in
    let first = c.in-Some.first.now in
    let others = c.in-Some.others.now in
    let split : c.args.bounces.now ≡ first ∷ others = cc (c.in-Some.ensures.cases.0, c.in-Some.first-is, c.in-Some.others-is) in
    let old = k.written c.args.out.now in
    let head = k.written c.write_point.new.out in
    let new = k.written c.write_next_points.new.out in
    let result = c.write_next_points.result in
    let all = Writes-then old head new result (point_text c.bounce_point.result) (flat_map (next_point_text triangle) others)
    c.in_ok-write_point-in-Some.ensures.text c.write_next_points.ensures.text in
    let named = subst (λ (p : PicturePoint). Writes old new result (point_text p ++ flat_map (next_point_text triangle) others)) c.bounce_point.ensures all in
    let mapped = subst (λ (text : List ℕ). Writes old new result (point_text (point_on triangle first) ++ text)) (next_texts triangle others) named in
    subst (λ (bs : List Bounce). Writes old new result (points_text (drawn_bounces triangle bs))) (sym split) mapped
