-- A picture that was written.
use Rattle.std.proofs.Common.{◌≡◌, refl, sym, subst, ℕ, ◌+◌, List, length, take}
use Rattle.std.specs.declared.option.Option.{Option}
use Rattle.std.specs.declared.result.Result.{Result}
use Rattle.rat_core.specs.Written.{Written, value}
use Rattle.mcb_ends.specs.Bytes.{Writes}
use Rattle.plane_points.specs.Spots.{TriangleAngles}
use Rattle.svg_pictures.specs.declared.side.Side.TheVariants.{Upper, Lower}
use Rattle.svg_pictures.specs.declared.picture_point.PicturePoint.{PicturePoint}
use Rattle.svg_pictures.specs.declared.drawn.DrawnTriangle.{DrawnTriangle}
use Rattle.svg_pictures.specs.declared.frame.Frame.{Frame}
use Rattle.svg_pictures.specs.Drawn.{points_of}
use Rattle.svg_pictures.specs.Ends.{end_of}
use Rattle.svg_pictures.specs.UnfoldingPicture.{IsPictureOfWord, AreEnds, IsFrame, unfolding_text, WritesUnfolding}

-- the edges are those of the word, and the angles those of the triangle
pub picture_written : {T E : Type 0} (w edges : List ℕ) (x y : Written) (at : TriangleAngles) (drawn : List DrawnTriangle) (uppers lowers : List PicturePoint)
    (frame : Frame) (old new : Option (List ℕ)) (result : Result T E) → edges ≡ w → at ≡ (x, y)
    → (let n = length edges in IsPictureOfWord w (value at.0) (value at.1) (take (length w + 1) drawn)
    → AreEnds edges (end_of Upper edges) (take (n + 1) drawn) (take n uppers) → AreEnds edges (end_of Lower edges) (take (n + 1) drawn) (take n lowers)
    → IsFrame (points_of (take (n + 1) drawn)) frame
    → Writes old new result (unfolding_text frame (take (n + 1) drawn) (take n uppers) (take n lowers))
    → WritesUnfolding w (value x) (value y) old new result)
picture_written w edges x y at drawn uppers lowers frame old new result same at_is picture are_uppers are_lowers seen written =
    let n = length edges in
    let triangles = take (n + 1) drawn in
    let in_triangle = subst (λ (t : TriangleAngles). IsPictureOfWord w (value t.0) (value t.1) (take (length w + 1) drawn)) at_is picture in
    subst (λ (v : List ℕ). WritesUnfolding v (value x) (value y) old new result) same
    (record {
      text = unfolding_text frame triangles (take n uppers) (take n lowers);
      picture = record {
        triangles = triangles;
        uppers = take n uppers;
        lowers = take n lowers;
        frame = frame;
        drawn = subst (λ (v : List ℕ). IsPictureOfWord v (value x) (value y) (take (length v + 1) drawn)) (sym same) in_triangle;
        are_uppers = are_uppers;
        are_lowers = are_lowers;
        seen = seen;
        text_is = refl;
      };
      written = written;
    })
