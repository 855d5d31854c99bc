use Rattle.std.proofs.Common.{◌≡◌, take}
use Rattle.std.specs.Io.KnownBytes.{Appends}
use Rattle.billiards_cli.specs.Commands.Word.{terms_text}
use Rattle.billiards_cli.proofs.commands.word.shift.write_terms.Given as goal

-- the terms so far are written, and room and count stand
abbrev pub invariant-loop-term : goal.invariant-loop-term
invariant-loop-term g l =
    let k = g.K.Sink in
    record {
      text : Appends (k.written l.fn.out) (k.written l.out) (terms_text (take l.term-index l.terms));
      room : k.room l.out ≡ k.room l.fn.out;
      faults : k.faults l.out ≡ k.faults l.fn.out;
    }
