-- Elements that no fact speaks of, where a lemma on lists asks for one.
use Rattle.std.proofs.Common.{pos}
use Rattle.svg_pictures.specs.declared.picture_point.PicturePoint.{PicturePoint}
use Rattle.svg_pictures.specs.declared.drawn.DrawnTriangle.{DrawnTriangle}

abbrev pub blank_point : PicturePoint
blank_point = record { across = pos 0; down = pos 0 }

abbrev pub blank_triangle : DrawnTriangle
blank_triangle = record { first = blank_point; second = blank_point; third = blank_point }
