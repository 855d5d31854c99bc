use Rattle.std.proofs.Common.{◌≡◌, ◌-◌, length}
use Rattle.covering_file.specs.TreeFile.{level_claims}
use Rattle.covering_file.proofs.Reached.{HasReached}
use Rattle.covering_file.proofs.tree.reading.read_nodes.Given as goal

-- the nodes so far are taken
abbrev pub invariant-loop-place : goal.invariant-loop-place
invariant-loop-place g l =
    let s = g.S.Source in
    record {
      reached : HasReached level_claims l.limit l.header l.walk l.nodes.items l.fn.lines l.lines (s.left l.fn.src) (s.left l.src);
      cause : s.faults l.src ≡ s.faults l.fn.src;
    }

-- each node uses one of the limit
abbrev pub decreases-loop-place : goal.decreases-loop-place
decreases-loop-place g l = l.limit - length l.nodes.items
