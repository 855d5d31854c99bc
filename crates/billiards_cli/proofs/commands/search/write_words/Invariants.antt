use Rattle.std.proofs.Common.{◌≡◌, take}
use Rattle.std.specs.List.{flat_map}
use Rattle.std.specs.Io.KnownBytes.{Appends}
use Rattle.billiards_cli.specs.Commands.Search.{word_line}
use Rattle.billiards_cli.proofs.commands.search.write_words.Given as goal

-- the words so far are written, and room and count stand
abbrev pub invariant-loop-word : goal.invariant-loop-word
invariant-loop-word g l =
    let k = g.K.Sink in
    record {
      text : Appends (k.written l.fn.out) (k.written l.out) (flat_map word_line (take l.word-index l.words));
      room : k.room l.out ≡ k.room l.fn.out;
      faults : k.faults l.out ≡ k.faults l.fn.out;
    }
