use Rattle.std.proofs.Common.{◌∙◌}
use Rattle.svg_pictures.proofs.Pictures.{picture_written}
use Rattle.svg_pictures.proofs.unfolding_picture.write_unfolding.Goals as goal

pub returns-clause-text : goal.returns-clause-text
returns-clause-text g c =
    let k = g.K.Sink in
    picture_written c.args.u.now c.letters-edges.result.now c.args.x c.args.y c.at.result c.draw_triangles-drawn.result c.ends-uppers.result
    c.ends-lowers.result c.frame_of.result (k.written c.args.out.now) (k.written c.write_drawing.new.out) c.write_drawing.result
    (c.letters-edges.ensures.all ∙ c.word.ensures.all) c.at.ensures c.draw_triangles-drawn.ensures c.ends-uppers.ensures c.ends-lowers.ensures
    c.frame_of.ensures c.write_drawing.ensures.text
