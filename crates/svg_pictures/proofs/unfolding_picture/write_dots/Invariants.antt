use Rattle.std.proofs.Common.{◌≡◌, take}
use Rattle.std.specs.Io.KnownBytes.{Appends}
use Rattle.std.specs.List.{flat_map}
use Rattle.svg_pictures.specs.UnfoldingPicture.{dot_line}
use Rattle.svg_pictures.proofs.unfolding_picture.write_dots.Given as goal

-- the dots so far are written, and room and count stand
abbrev pub invariant-loop-point : goal.invariant-loop-point
invariant-loop-point g l =
    let k = g.K.Sink in
    record {
      text : Appends (k.written l.fn.out) (k.written l.out) (flat_map (dot_line l.colour) (take l.point-index l.points));
      room : k.room l.out ≡ k.room l.fn.out;
      faults : k.faults l.out ≡ k.faults l.fn.out;
    }
