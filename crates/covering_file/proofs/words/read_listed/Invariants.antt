use Rattle.std.proofs.Common.{◌≡◌, ◌+◌, length}
use Rattle.line_grammar.specs.Reading.{TakesPart}
use Rattle.covering_file.proofs.HeaderParts.{listed_so_far}
use Rattle.covering_file.proofs.words.read_listed.Given as goal

-- the words so far are taken, each by one line
abbrev pub invariant-words : goal.invariant-words
invariant-words g l =
    let s = g.S.Source in
    record {
      takes : TakesPart (listed_so_far l.count) l.fn.lines l.lines (s.left l.fn.src) (s.left l.src) l.words.items;
      number : l.lines.number ≡ l.fn.lines.number + length l.words.items;
      count : length l.words.items ≡ l.counter;
      cause : s.faults l.src ≡ s.faults l.fn.src;
    }
