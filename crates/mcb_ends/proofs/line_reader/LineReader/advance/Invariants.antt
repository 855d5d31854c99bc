use Rattle.std.proofs.Common.{◌≡◌, ◌-◌, false, length}
use Rattle.mcb_ends.specs.Reader.{IsInHand}
use Rattle.mcb_ends.proofs.Reading.{Grown}
use Rattle.mcb_ends.proofs.line_reader.LineReader.advance.Given as goal

-- the reader only read on, and the count stands
abbrev pub invariant-loop-len : goal.invariant-loop-len
invariant-loop-len g l =
    let s = g.S.Source in
    record {
      reading : l.self.is_done ≡ false;
      number : l.self.number ≡ l.fn.self.number;
      grown : Grown l.fn.self.held l.self.held (s.left l.fn.src) (s.left l.src);
      faults : s.faults l.src ≡ s.faults l.fn.src;
      in_hand : IsInHand l.fn.self → (l.self.held ≡ l.fn.self.held) × (l.src ≡ l.fn.src);
    }

abbrev pub decreases-loop-len : goal.decreases-loop-len
decreases-loop-len g l = 81 - length l.self.held
