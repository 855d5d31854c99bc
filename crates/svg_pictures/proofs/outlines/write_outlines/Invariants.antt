use Rattle.std.proofs.Common.{◌≡◌, take}
use Rattle.std.specs.Io.KnownBytes.{Appends}
use Rattle.std.specs.List.{flat_map}
use Rattle.svg_pictures.specs.CoveringPicture.{outline_line}
use Rattle.svg_pictures.proofs.outlines.write_outlines.Given as goal

-- the outlines so far are written, and room and count stand
abbrev pub invariant-loop-polygon : goal.invariant-loop-polygon
invariant-loop-polygon g l =
    let k = g.K.Sink in
    record {
      text : Appends (k.written l.fn.out) (k.written l.out) (flat_map (outline_line l.width) (take l.polygon-index l.polygons));
      room : k.room l.out ≡ k.room l.fn.out;
      faults : k.faults l.out ≡ k.faults l.fn.out;
    }
