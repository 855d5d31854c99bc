use Rattle.std.proofs.Common.{◌≡◌, ◌+◌, ◌*◌, ◌≤◌, length}
use Rattle.line_grammar.specs.Reading.{TakesPart}
use Rattle.covering_file.proofs.HeaderParts.{polygons_so_far}
use Rattle.covering_file.proofs.region.read_polygons.Given as goal

-- the polygons so far are taken, each by at most 17 lines
abbrev pub invariant-polygons : goal.invariant-polygons
invariant-polygons g l =
    let s = g.S.Source in
    record {
      takes : TakesPart (polygons_so_far l.grid l.count) l.fn.lines l.lines (s.left l.fn.src) (s.left l.src) l.polygons.items;
      number : l.lines.number ≤ l.fn.lines.number + 17 * length l.polygons.items;
      count : length l.polygons.items ≡ l.counter;
      cause : s.faults l.src ≡ s.faults l.fn.src;
    }
