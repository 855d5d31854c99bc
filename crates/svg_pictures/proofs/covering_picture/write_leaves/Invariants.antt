use Rattle.std.proofs.Common.{◌≡◌}
use Rattle.svg_pictures.proofs.DrawnTrees.{AreDrawn}
use Rattle.svg_pictures.proofs.covering_picture.write_leaves.Given as goal

-- the nodes so far are drawn, and room and count stand
abbrev pub invariant-loop-node : goal.invariant-loop-node
invariant-loop-node g l =
    let k = g.K.Sink in
    record {
      drawn : AreDrawn l.tree l.nodes l.walk l.node-index (k.written l.fn.out) (k.written l.out);
      room : k.room l.out ≡ k.room l.fn.out;
      faults : k.faults l.out ≡ k.faults l.fn.out;
    }
