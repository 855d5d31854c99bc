use Rattle.std.proofs.Common.{◌≡◌, ◌++◌, take, codes}
use Rattle.std.specs.Io.KnownBytes.{Appends}
use Rattle.std.specs.List.{flat_map}
use Rattle.svg_pictures.specs.CoveringPicture.{corner_text}
use Rattle.svg_pictures.proofs.outlines.write_next_corners.Given as goal

-- the corners so far are written, and room and count stand
abbrev pub invariant-loop-corner : goal.invariant-loop-corner
invariant-loop-corner g l =
    let k = g.K.Sink in
    record {
      text : Appends (k.written l.fn.out) (k.written l.out) (flat_map (λ d. codes " " ++ corner_text l.grid d) (take l.corner-index l.corners));
      room : k.room l.out ≡ k.room l.fn.out;
      faults : k.faults l.out ≡ k.faults l.fn.out;
    }
