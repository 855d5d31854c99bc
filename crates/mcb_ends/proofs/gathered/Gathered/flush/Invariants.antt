use Rattle.std.proofs.Common.{◌≡◌, []}
use Rattle.std.specs.Io.KnownBytes.{Keeps}
use Rattle.mcb_ends.specs.Gathered.{gathered_sink, gathered_held, gathered_written}
use Rattle.mcb_ends.proofs.gathered.Gathered.flush.Given as goal

-- what was written stands, and room and count stand; where nothing is held, nothing is done
abbrev pub invariant-loop-self : goal.invariant-loop-self
invariant-loop-self g l =
    let k = g.K.Sink in
    record {
      written : Keeps (gathered_written k.written l.fn.self) (gathered_written k.written l.self);
      room : k.room (gathered_sink l.self) ≡ k.room (gathered_sink l.fn.self);
      faults : k.faults (gathered_sink l.self) ≡ k.faults (gathered_sink l.fn.self);
      idle : gathered_held l.fn.self ≡ [] → l.self ≡ l.fn.self;
    }

abbrev pub decreases-loop-self : goal.decreases-loop-self
decreases-loop-self g l = l.self.len
