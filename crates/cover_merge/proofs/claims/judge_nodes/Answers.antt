-- The next node is judged at the box that is due.
use Rattle.std.proofs.Common.{◌∙◌, ap, length, arith}
use Rattle.covering_file.specs.declared.TheConstants.{MAX_NODES}
use Rattle.covering_file.proofs.TreeFiles.{tree_file_few}
use Rattle.cover_merge.proofs.Judged.{judged_within, judged_node, judged_false, judged_more, judged_all}
use Rattle.cover_merge.proofs.claims.judge_nodes.Goals as goal

pub bounds-nodes-before : goal.bounds-nodes-before
bounds-nodes-before c =
    judged_within c.args.file.now c.nodes-nodes.result.now c.loop-place.walk c.loop-place.before c.due.result c.in-Some.place c.loop-place.invariant.judged
    c.due.ensures c.in-Some.is

pub judge_node-requires-clause-node : goal.judge_node-requires-clause-node
judge_node-requires-clause-node c =
    judged_node c.args.file.now c.header-in-Some.result.now c.nodes-nodes.result.now c.loop-place.walk c.loop-place.before c.due.result c.in-Some.place
    c.loop-place.invariant.judged c.header-in-Some.ensures.value c.due.ensures c.in-Some.is

pub returns-in-Err : goal.returns-in-Err
returns-in-Err c = record {
  judged = judged_false c.args.file.now c.header-in-Some.result.now c.nodes-nodes.result.now c.loop-place.walk c.loop-place.before c.due.result
      c.in-Some.place c.in-Err.reason c.loop-place.invariant.judged c.header-in-Some.ensures.value c.due.ensures c.in-Some.is
      c.in-Err.ensures.refused.0 c.in-Err.ensures.refused.1;
}

pub loop-place-smaller : goal.loop-place-smaller
loop-place-smaller c =
    let within = judged_within c.args.file.now c.nodes-nodes.result.now c.loop-place.walk c.loop-place.before c.due.result c.in-Some.place
    c.loop-place.invariant.judged c.due.ensures c.in-Some.is in
    omega (arith, within)

pub loop-place-preserved : goal.loop-place-preserved
loop-place-preserved c = record {
  judged = judged_more c.args.file.now c.header-in-Some.result.now c.nodes-nodes.result.now c.loop-place.walk c.step.new.self c.loop-place.before
      c.due.result c.in-Some.place c.loop-place.invariant.judged c.header-in-Some.ensures.value c.due.ensures c.in-Some.is c.step.ensures
      c.in_default-judge_node.ensures.passed;
  kept = c.in_default-judge_node.ensures.kept ∙ c.loop-place.invariant.kept;
}

pub returns : goal.returns
returns c = record {
  judged = judged_all c.args.file.now c.nodes-nodes.result.now c.loop-place.walk c.loop-place.before c.due.result c.loop-place.invariant.judged
      c.due.ensures c.in_default.is;
}

pub overflow_add-before : goal.overflow_add-before
overflow_add-before c =
    let within = judged_within c.args.file.now c.nodes-nodes.result.now c.loop-place.walk c.loop-place.before c.due.result c.in-Some.place
    c.loop-place.invariant.judged c.due.ensures c.in-Some.is in
    omega (arith, within, ap length c.loop-place.invariant.judged.all, tree_file_few MAX_NODES c.args.file.now c.loop-place.invariant.judged.is)
