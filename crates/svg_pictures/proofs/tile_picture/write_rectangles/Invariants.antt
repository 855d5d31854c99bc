use Rattle.std.proofs.Common.{◌≡◌, take}
use Rattle.std.specs.Io.KnownBytes.{Appends}
use Rattle.std.specs.List.{flat_map}
use Rattle.svg_pictures.specs.TilePicture.{rectangle_line}
use Rattle.svg_pictures.proofs.tile_picture.write_rectangles.Given as goal

-- the rectangles so far are written, and room and count stand
abbrev pub invariant-loop-patch : goal.invariant-loop-patch
invariant-loop-patch g l =
    let k = g.K.Sink in
    record {
      text : Appends (k.written l.fn.out) (k.written l.out) (flat_map rectangle_line (take l.patch-index l.patches));
      room : k.room l.out ≡ k.room l.fn.out;
      faults : k.faults l.out ≡ k.faults l.fn.out;
    }
