use Rattle.covering_file.specs.declared.node.Node.TheVariants.{Split}
use Rattle.covering_file.specs.Node.{node_line}
use Rattle.covering_file.proofs.Texts.{cut_in_list}
use Rattle.covering_file.proofs.tree.writing.write_nodes.Goals as goal

pub returns-in_err-write_node-clause-text : goal.returns-in_err-write_node-clause-text
returns-in_err-write_node-clause-text g c =
    let k = g.K.Sink in
    cut_in_list node_line (k.written c.args.out.now) (k.written c.loop-node.out) (k.written c.write_node.new.out) c.from_residual.result c.args.nodes.now
    c.loop-node.node-index Split c.loop-node-test.true c.loop-node.invariant.text c.in_err-write_node.ensures.text c.from_residual.ensures.0
