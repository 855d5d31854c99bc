use Rattle.std.proofs.Common.{List, ◌∷◌, take, subst, sym, slice_index_or}
use Rattle.std.proofs.lemmas.List.{take_all}
use Rattle.svg_pictures.specs.declared.drawn.DrawnTriangle.{DrawnTriangle}
use Rattle.svg_pictures.specs.declared.frame.Frame.{Frame}
use Rattle.svg_pictures.specs.Drawn.{points_of}
use Rattle.svg_pictures.specs.UnfoldingPicture.{IsFrame}
use Rattle.svg_pictures.proofs.Blank.{blank_triangle}
use Rattle.svg_pictures.proofs.Frames.{frame_one, frame_stepped, frame_all}
use Rattle.svg_pictures.proofs.frame.frame_of.Goals as goal

pub loop-triangle-init : goal.loop-triangle-init
loop-triangle-init c =
    let first = (slice_index_or c.args.triangles.now 0 blank_triangle).first in
    subst (λ (f : Frame). IsFrame (first ∷ points_of (take 0 c.args.triangles.now)) f) (sym c.around-frame.ensures) (frame_one first)

pub loop-triangle-preserved : goal.loop-triangle-preserved
loop-triangle-preserved c =
    let triangles = c.args.triangles.now in
    frame_stepped (slice_index_or triangles 0 blank_triangle).first triangles c.loop-triangle.triangle-index blank_triangle c.loop-triangle.frame
    c.with.result c.with-in-loop-triangle.result c.with-frame.result c.loop-triangle-test.true
    c.with.ensures c.with-in-loop-triangle.ensures c.with-frame.ensures c.loop-triangle.invariant

pub returns : goal.returns
returns c =
    let triangles = c.args.triangles.now in
    let first = (slice_index_or triangles 0 blank_triangle).first in
    frame_all triangles blank_triangle c.loop-triangle.frame c.requires
    (subst (λ (ts : List DrawnTriangle). IsFrame (first ∷ points_of ts) c.loop-triangle.frame)
    (take_all c.loop-triangle.triangle-index triangles c.loop-triangle-test.false) c.loop-triangle.invariant)
