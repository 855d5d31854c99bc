use Rattle.std.proofs.Common.{◌≡◌, take}
use Rattle.std.specs.Io.KnownBytes.{Appends}
use Rattle.billiards_cli.specs.Commands.Path.{bounce_lines}
use Rattle.billiards_cli.proofs.commands.path.writing.write_lines.Given as goal

-- the lines so far are written, and room and count stand
abbrev pub invariant-loop-place : goal.invariant-loop-place
invariant-loop-place g l =
    let k = g.K.Sink in
    record {
      text : Appends (k.written l.fn.out) (k.written l.out) (bounce_lines 1 (take l.place l.bounces));
      room : k.room l.out ≡ k.room l.fn.out;
      faults : k.faults l.out ≡ k.faults l.fn.out;
    }
