use Rattle.std.proofs.Common.{◌≡◌, take}
use Rattle.std.specs.Io.KnownBytes.{Appends}
use Rattle.std.specs.List.{flat_map}
use Rattle.svg_pictures.specs.UnfoldingPicture.{polygon_line}
use Rattle.svg_pictures.proofs.unfolding_picture.write_polygons.Given as goal

-- the triangles so far are written, and room and count stand
abbrev pub invariant-loop-triangle : goal.invariant-loop-triangle
invariant-loop-triangle g l =
    let k = g.K.Sink in
    record {
      text : Appends (k.written l.fn.out) (k.written l.out) (flat_map polygon_line (take l.triangle-index l.triangles));
      room : k.room l.out ≡ k.room l.fn.out;
      faults : k.faults l.out ≡ k.faults l.fn.out;
    }
