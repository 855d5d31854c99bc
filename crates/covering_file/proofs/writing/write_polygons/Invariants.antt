use Rattle.std.proofs.Common.{◌≡◌, take}
use Rattle.std.specs.Io.KnownBytes.{Appends}
use Rattle.std.specs.List.{flat_map}
use Rattle.covering_file.specs.Header.{polygon_lines}
use Rattle.line_grammar.specs.Text.{text_of}
use Rattle.covering_file.proofs.writing.write_polygons.Given as goal

-- the polygons so far are written, and room and count stand
abbrev pub invariant-loop-polygon : goal.invariant-loop-polygon
invariant-loop-polygon g l =
    let k = g.K.Sink in
    record {
      text : Appends (k.written l.fn.out) (k.written l.out) (flat_map (λ p. text_of (polygon_lines p)) (take l.polygon-index l.polygons));
      room : k.room l.out ≡ k.room l.fn.out;
      faults : k.faults l.out ≡ k.faults l.fn.out;
    }
