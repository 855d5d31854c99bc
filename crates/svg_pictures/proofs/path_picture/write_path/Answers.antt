use Rattle.std.proofs.Common.{List, refl, subst}
use Rattle.bounce_path.specs.declared.bounce.Bounce.{Bounce}
use Rattle.rat_core.specs.Written.{value}
use Rattle.plane_points.specs.Spots.{TriangleAngles}
use Rattle.svg_pictures.specs.BouncePoints.{drawn_bounces}
use Rattle.svg_pictures.specs.PathPicture.{IsFirstTriangle, ArePicturesOfBounces, path_text}
use Rattle.svg_pictures.proofs.BouncePoints.{bounces_drawn}
use Rattle.svg_pictures.proofs.path_picture.write_path.Goals as goal

pub returns-clause-text : goal.returns-clause-text
returns-clause-text g c =
    let triangle = c.first_triangle-triangle.result in
    let bounces = c.bounces.result.now in
    let drawn = subst (λ (at : TriangleAngles). IsFirstTriangle (value at.0) (value at.1) triangle) c.at.ensures c.first_triangle-triangle.ensures in
    let points = drawn_bounces triangle bounces in
    record {
      text = path_text c.frame_of.result triangle points;
      picture = record {
        triangle = triangle;
        points = points;
        frame = c.frame_of.result;
        drawn = drawn;
        bounces = subst (λ (bs : List Bounce). ArePicturesOfBounces bs (value c.args.x) (value c.args.y) points) c.bounces.ensures.bounces
            (bounces_drawn (value c.args.x) (value c.args.y) triangle bounces drawn c.bounces.ensures.on_edges);
        seen = c.frame_of.ensures;
        text_is = refl;
      };
      written = c.write_drawing.ensures.text;
    }
