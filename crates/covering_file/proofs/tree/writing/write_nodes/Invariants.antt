use Rattle.std.proofs.Common.{◌≡◌, map, take}
use Rattle.std.specs.Io.KnownBytes.{Appends}
use Rattle.line_grammar.specs.Text.{text_of}
use Rattle.covering_file.specs.Node.{node_line}
use Rattle.covering_file.proofs.tree.writing.write_nodes.Given as goal

-- the nodes so far are written, and room and count stand
abbrev pub invariant-loop-node : goal.invariant-loop-node
invariant-loop-node g l =
    let k = g.K.Sink in
    record {
      text : Appends (k.written l.fn.out) (k.written l.out) (text_of (map node_line (take l.node-index l.nodes)));
      room : k.room l.out ≡ k.room l.fn.out;
      faults : k.faults l.out ≡ k.faults l.fn.out;
    }
