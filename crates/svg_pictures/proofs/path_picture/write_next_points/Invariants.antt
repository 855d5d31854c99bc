use Rattle.std.proofs.Common.{◌≡◌, take}
use Rattle.std.specs.Io.KnownBytes.{Appends}
use Rattle.std.specs.List.{flat_map}
use Rattle.svg_pictures.specs.BouncePoints.{next_point_text}
use Rattle.svg_pictures.proofs.path_picture.write_next_points.Given as goal

-- the points so far are written, and room and count stand
abbrev pub invariant-loop-bounce : goal.invariant-loop-bounce
invariant-loop-bounce g l =
    let k = g.K.Sink in
    record {
      text : Appends (k.written l.fn.out) (k.written l.out) (flat_map (next_point_text l.triangle) (take l.bounce-index l.bounces));
      room : k.room l.out ≡ k.room l.fn.out;
      faults : k.faults l.out ≡ k.faults l.fn.out;
    }
