use Rattle.std.proofs.Common.{◌≡◌, ◌+◌, ◌-◌, ◌≤◌, List, length}
use Rattle.covering_file.specs.declared.node.Node.{Node}
use Rattle.covering_file.specs.CheckClaims.{check_claims}
use Rattle.covering_file.proofs.Reached.{HasReached}
use Rattle.cover_checker.proofs.nodes.take_nodes.Given as goal

-- so many nodes are taken
abbrev pub invariant-loop-place : goal.invariant-loop-place
invariant-loop-place g l =
    let s = g.S.Source in
    record {
      nodes : List Node;
      counted : l.count ≡ length nodes;
      reached : HasReached check_claims l.limit l.header l.walk nodes l.fn.lines l.lines (s.left l.fn.src) (s.left l.src);
      within : l.count ≤ l.limit;
      number : l.lines.number ≡ l.fn.lines.number + l.count;
      kept : l.tests ≡ l.fn.tests;
      cause : s.faults l.src ≡ s.faults l.fn.src;
    }

-- each node uses one of the limit
abbrev pub decreases-loop-place : goal.decreases-loop-place
decreases-loop-place g l = l.limit - l.count
