use Rattle.std.proofs.Common.{◌≡◌, map, take}
use Rattle.std.specs.Io.KnownBytes.{Appends}
use Rattle.edge_words.specs.Reading.{digits_of}
use Rattle.line_grammar.specs.Text.{text_of}
use Rattle.covering_file.proofs.writing.write_letters.Given as goal

-- the words so far are written, and room and count stand
abbrev pub invariant-loop-word : goal.invariant-loop-word
invariant-loop-word g l =
    let k = g.K.Sink in
    record {
      text : Appends (k.written l.fn.out) (k.written l.out) (text_of (map digits_of (take l.word-index l.words)));
      room : k.room l.out ≡ k.room l.fn.out;
      faults : k.faults l.out ≡ k.faults l.fn.out;
    }
