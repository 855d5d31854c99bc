use Rattle.std.proofs.Common.{◌≡◌, ◌-◌, List, length, map}
use Rattle.std.specs.Io.KnownBytes.{Appends}
use Rattle.std.specs.Prelude.{count_by}
use Rattle.line_grammar.specs.Text.{text_of}
use Rattle.covering_file.specs.declared.node.Node.{Node}
use Rattle.covering_file.specs.Node.{is_uncovered, node_line}
use Rattle.coverer.proofs.Reached.{HasReached}
use Rattle.coverer.proofs.nodes.write_nodes.Given as goal

-- the nodes so far are written
abbrev pub invariant-loop-place : goal.invariant-loop-place
invariant-loop-place g l =
    let k = g.K.Sink in
    record {
      tests : l.tests ≡ l.fn.tests;
      nodes : List Node;
      reached : HasReached l.limit l.header nodes l.due;
      counted : l.nodes ≡ length nodes;
      uncovered : l.left ≡ count_by is_uncovered nodes;
      text : Appends (k.written l.fn.out) (k.written l.out) (text_of (map node_line nodes));
      room : k.room l.out ≡ k.room l.fn.out;
      faults : k.faults l.out ≡ k.faults l.fn.out;
    }

-- each node uses one of the limit
abbrev pub decreases-loop-place : goal.decreases-loop-place
decreases-loop-place g l = l.limit - l.nodes
