use Rattle.std.proofs.Common.{◌≡◌, ◌-◌, ◌≤◌, length, take}
use Rattle.std.specs.Io.KnownBytes.{Appends}
use Rattle.mcb_ends.proofs.writing.put.Given as goal

-- the bytes before the place are written, and room and count stand
abbrev pub invariant-loop-at : goal.invariant-loop-at
invariant-loop-at g l =
    let k = g.K.Sink in
    record {
      within : l.at ≤ length l.piece;
      text : Appends (k.written l.fn.out) (k.written l.out) (take l.at l.piece);
      room : k.room l.out ≡ k.room l.fn.out;
      faults : k.faults l.out ≡ k.faults l.fn.out;
    }

abbrev pub decreases-loop-at : goal.decreases-loop-at
decreases-loop-at g l = length l.piece - l.at
