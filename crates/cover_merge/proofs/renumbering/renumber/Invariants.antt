use Rattle.std.proofs.Common.{◌≡◌, ◌<◌, ◌≤◌, ℕ, get_or}
use Rattle.covering_file.specs.declared.node.Node.{Node}
use Rattle.cover_merge.specs.Steps.{number_at}
use Rattle.cover_merge.specs.Union.{with_number}
use Rattle.cover_merge.proofs.renumbering.renumber.Given as goal

-- those so far have other numbers, and the rest stands
abbrev pub invariant-loop-node : goal.invariant-loop-node
invariant-loop-node l = record {
  done : (k : ℕ) (d : Node) → k < l.node-index → get_or l.nodes k d ≡ with_number (number_at l.numbers) (get_or l.fn.nodes k d);
  rest : (k : ℕ) (d : Node) → l.node-index ≤ k → get_or l.nodes k d ≡ get_or l.fn.nodes k d;
}
