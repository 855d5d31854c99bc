use Rattle.std.proofs.Common.{◌≡◌, take}
use Rattle.std.specs.Prelude.{count_by}
use Rattle.covering_file.specs.Node.{is_uncovered}
use Rattle.covering_file.proofs.tree.count_uncovered.Given as goal

-- those so far are counted
abbrev pub invariant-loop-node : goal.invariant-loop-node
invariant-loop-node l = l.count ≡ count_by is_uncovered (take l.node-index l.nodes)
