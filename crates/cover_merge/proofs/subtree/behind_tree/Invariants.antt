use Rattle.std.proofs.Common.{◌+◌, ◌*◌, ◌-◌, ◌≤◌}
use Rattle.cover_merge.proofs.Behind.{IsDue}
use Rattle.cover_merge.proofs.subtree.behind_tree.Given as goal

-- so many trees are due before this place, at least one
abbrev pub invariant-loop-k : goal.invariant-loop-k
invariant-loop-k l = record {
  trees : IsDue l.nodes l.start l.k l.due;
  some : 1 ≤ l.due;
  few : l.due ≤ 1 + 3 * (l.k - l.start);
}
