-- Where none is due the tree ends, and where the list ends some is due.
use Rattle.std.proofs.Common.{◌+◌, refl, get_or, arith}
use Rattle.covering_file.specs.declared.node.Node.TheVariants.{Split}
use Rattle.cover_merge.proofs.Behind.{due_first, due_next, due_none, due_past}
use Rattle.cover_merge.proofs.Listed.{node_at}
use Rattle.cover_merge.proofs.subtree.behind_tree.Goals as goal

pub loop-k-init : goal.loop-k-init
loop-k-init c = record { trees = due_first c.args.nodes.now c.args.start; some = omega arith; few = omega arith }

pub returns-then-due-eq0-clause-behind : goal.returns-then-due-eq0-clause-behind
returns-then-due-eq0-clause-behind c =
    let n = get_or c.args.nodes.now c.loop-k.k Split in
    due_none c.args.nodes.now c.args.start (c.loop-k.k + 1) c.due_behind-due.result c.if-due-eq0.true
    (due_next c.args.nodes.now c.args.start c.loop-k.k c.loop-k.due c.due_behind-due.result n
    (node_at c.args.nodes.now c.loop-k.k n c.loop-k-test.true refl) c.loop-k.invariant.some c.due_behind-due.ensures.split c.due_behind-due.ensures.leaf
    c.loop-k.invariant.trees)

pub loop-k-preserved : goal.loop-k-preserved
loop-k-preserved c =
    let n = get_or c.args.nodes.now c.loop-k.k Split in
    record {
      trees =
          due_next c.args.nodes.now c.args.start c.loop-k.k c.loop-k.due c.due_behind-due.result n
          (node_at c.args.nodes.now c.loop-k.k n c.loop-k-test.true refl) c.loop-k.invariant.some c.due_behind-due.ensures.split
          c.due_behind-due.ensures.leaf c.loop-k.invariant.trees;
      some = omega (arith, c.if-due-eq0.false);
      few = omega (arith, c.due_behind-due.ensures.few, c.loop-k.invariant.few, c.loop-k.auto.k);
    }

pub returns-clause-behind : goal.returns-clause-behind
returns-clause-behind c t stands =
    absurd (due_past c.args.nodes.now c.args.start c.loop-k.k c.loop-k.due c.loop-k.invariant.some (omega (arith, c.loop-k-test.false))
    c.loop-k.invariant.trees t stands)
