-- Each node is taken at the first due box, and none is due at the end.
use Rattle.std.proofs.Common.{refl, sym, ap, ◌∙◌, subst, List, length, None}
use Rattle.std.proofs.lemmas.Result.{err_from_is_err_and}
use Rattle.covering_file.specs.Walk.{Frontier}
use Rattle.covering_file.specs.declared.node.Node.{Node}
use Rattle.covering_file.specs.TreeFile.{level_claims}
use Rattle.covering_file.proofs.HeadFaults.{same_refusal}
use Rattle.covering_file.proofs.Pushed.{pushed}
use Rattle.covering_file.proofs.Reached.{HasReached, at_start, after_node, first_after, node_not_taken}
use Rattle.covering_file.proofs.tree.reading.read_nodes.Goals as goal

pub loop-place-init : goal.loop-place-init
loop-place-init g c =
    record {
      reached =
          subst (λ (ns : List Node). HasReached level_claims c.args.limit c.args.header.now c.new-walk.result ns c.args.lines.now c.args.lines.now
          (g.S.Source.left c.args.src.now) (g.S.Source.left c.args.src.now)) (sym c.new-nodes.ensures.items)
          (at_start level_claims c.args.limit c.args.header.now c.new-walk.result c.args.lines.now (g.S.Source.left c.args.src.now) c.requires.reading
          (ap (λ (w : Frontier). w.depth) c.new-walk.ensures ∙ c.depth.ensures.value) (ap (λ (w : Frontier). w.due) c.new-walk.ensures));
      cause = refl;
    }

pub returns-in_err-node-clause-fails : goal.returns-in_err-node-clause-fails
returns-in_err-node-clause-fails g c =
    let left = g.S.Source.left in
    let reached = c.loop-place.invariant.reached in
    let nodes = c.loop-place.nodes.items in
    let first = sym c.due.ensures ∙ c.in-Some.is in
    let at = first_after level_claims c.args.limit c.args.header.now c.loop-place.walk nodes c.in-Some.place c.args.lines.now c.loop-place.lines
    (left c.args.src.now) (left c.loop-place.src) reached first in
    let p = err_from_is_err_and c.from_residual.result c.from_residual.ensures.1 in
    rw (p.1, p.2, same_refusal c.in_err-node.field-0.0)
    (node_not_taken level_claims c.args.limit c.args.header.now c.loop-place.walk nodes c.in-Some.place c.args.lines.now c.loop-place.lines
    c.take_node.new.lines (left c.args.src.now) (left c.loop-place.src) (left c.take_node.new.src) _ reached first
    (c.in_err-node.ensures.node nodes (ap length c.as_slice.ensures.value) at))

pub returns-in_err-map_err-clause-fails : goal.returns-in_err-map_err-clause-fails
returns-in_err-map_err-clause-fails g c =
    let left = g.S.Source.left in
    let reached = c.loop-place.invariant.reached in
    let nodes = c.loop-place.nodes.items in
    let first = sym c.due.ensures ∙ c.in-Some.is in
    let p = err_from_is_err_and c.from_residual-in_err-map_err.result c.from_residual-in_err-map_err.ensures.1 in
    rw (p.1, p.2)
    (node_not_taken level_claims c.args.limit c.args.header.now c.loop-place.walk nodes c.in-Some.place c.args.lines.now c.loop-place.lines
    c.take_node.new.lines (left c.args.src.now) (left c.loop-place.src) (left c.take_node.new.src) None reached first
    (record { due = tt; reached = tt; stops = c.take_node.ensures.stops }))

pub loop-place-preserved : goal.loop-place-preserved
loop-place-preserved g c =
    let left = g.S.Source.left in
    let kept = c.loop-place.invariant in
    let reached = kept.reached in
    let nodes = c.loop-place.nodes.items in
    let node = c.in_ok-node.node in
    let first = sym c.due.ensures ∙ c.in-Some.is in
    let at = first_after level_claims c.args.limit c.args.header.now c.loop-place.walk nodes c.in-Some.place c.args.lines.now c.loop-place.lines
    (left c.args.src.now) (left c.loop-place.src) reached first in
    let more = pushed nodes c.push.new.self.items node c.push.result c.map_err.result c.in_ok-map_err.field-0 c.push.ensures.items
    c.map_err.ensures.variant c.in_ok-map_err.was in
    record {
      reached =
          subst (λ (ns : List Node). HasReached level_claims c.args.limit c.args.header.now c.step.new.self ns c.args.lines.now c.take_node.new.lines
          (left c.args.src.now) (left c.take_node.new.src)) (sym more)
          (after_node level_claims c.args.limit c.args.header.now c.loop-place.walk c.step.new.self nodes c.in-Some.place node
          c.args.lines.now c.loop-place.lines c.take_node.new.lines
          (left c.args.src.now) (left c.loop-place.src) (left c.take_node.new.src) reached c.step.ensures first
          (c.in_ok-node.ensures.node nodes (ap length c.as_slice.ensures.value) at));
      cause = c.in_ok-node.ensures.cause ∙ kept.cause;
    }
