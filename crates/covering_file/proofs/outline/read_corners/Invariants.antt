use Rattle.std.proofs.Common.{◌≡◌, ◌+◌, length}
use Rattle.line_grammar.specs.Reading.{TakesPart}
use Rattle.covering_file.specs.HeaderPart.{corners_so_far}
use Rattle.covering_file.proofs.outline.read_corners.Given as goal

-- the corners so far are taken, each by one line
abbrev pub invariant-corners : goal.invariant-corners
invariant-corners g l =
    let s = g.S.Source in
    record {
      takes : TakesPart (corners_so_far l.grid l.count) l.fn.lines l.lines (s.left l.fn.src) (s.left l.src) l.corners.items;
      number : l.lines.number ≡ l.fn.lines.number + length l.corners.items;
      count : length l.corners.items + 1 ≡ l.counter;
      cause : s.faults l.src ≡ s.faults l.fn.src;
    }
