use Rattle.std.proofs.Common.{◌≡◌, take}
use Rattle.std.specs.Io.KnownBytes.{Appends}
use Rattle.mcb_ends.specs.Bytes.{joined}
use Rattle.mcb_ends.proofs.writing.put_all.Given as goal

-- the pieces so far are written, and room and count stand
abbrev pub invariant-loop-piece : goal.invariant-loop-piece
invariant-loop-piece g l =
    let k = g.K.Sink in
    record {
      text : Appends (k.written l.fn.out) (k.written l.out) (joined (take l.piece-index l.pieces));
      room : k.room l.out ≡ k.room l.fn.out;
      faults : k.faults l.out ≡ k.faults l.fn.out;
    }
