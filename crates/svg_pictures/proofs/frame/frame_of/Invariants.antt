use Rattle.std.proofs.Common.{◌∷◌, slice_index_or, take}
use Rattle.svg_pictures.specs.Drawn.{points_of}
use Rattle.svg_pictures.specs.UnfoldingPicture.{IsFrame}
use Rattle.svg_pictures.proofs.Blank.{blank_triangle}
use Rattle.svg_pictures.proofs.frame.frame_of.Given as goal

-- the frame has the first point and those of the triangles so far
abbrev pub invariant-loop-triangle : goal.invariant-loop-triangle
invariant-loop-triangle l = IsFrame ((slice_index_or l.triangles 0 blank_triangle).first ∷ points_of (take l.triangle-index l.triangles)) l.frame
