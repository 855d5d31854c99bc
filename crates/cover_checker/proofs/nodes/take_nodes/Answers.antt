-- Each node is taken at the first due box, and none is due at the end.
use Rattle.std.proofs.Common.{refl, sym, ap, ◌∙◌, [], ◌∷◌, ◌++◌, length-append, arith}
use Rattle.std.proofs.lemmas.Result.{err_from_is_err_and}
use Rattle.covering_file.specs.CheckClaims.{check_claims}
use Rattle.covering_file.specs.Walk.{Frontier}
use Rattle.covering_file.proofs.Reached.{at_start, after_node, first_after, all_nodes, node_not_taken}
use Rattle.cover_checker.proofs.nodes.take_nodes.Goals as goal

pub loop-place-init : goal.loop-place-init
loop-place-init g c =
    record {
      nodes = [];
      counted = refl;
      reached =
          at_start check_claims c.args.limit c.args.header.now c.new-walk.result c.args.lines.now (g.S.Source.left c.args.src.now) c.requires.reading
          (ap (λ (w : Frontier). w.depth) c.new-walk.ensures ∙ c.depth.ensures.value) (ap (λ (w : Frontier). w.due) c.new-walk.ensures);
      within = omega arith;
      number = omega arith;
      kept = refl;
      cause = refl;
    }

pub returns-in_err-node-clause-fails : goal.returns-in_err-node-clause-fails
returns-in_err-node-clause-fails g c =
    let left = g.S.Source.left in
    let inv = c.loop-place.invariant in
    let first = sym c.due.ensures ∙ c.in-Some.is in
    let at = first_after check_claims c.args.limit c.args.header.now c.loop-place.walk inv.nodes c.in-Some.place c.args.lines.now c.loop-place.lines
    (left c.args.src.now) (left c.loop-place.src) inv.reached first in
    let p = err_from_is_err_and c.from_residual.result c.from_residual.ensures.1 in
    rw (p.1, p.2)
    (node_not_taken check_claims c.args.limit c.args.header.now c.loop-place.walk inv.nodes c.in-Some.place c.args.lines.now c.loop-place.lines
    c.take_node.new.lines
    (left c.args.src.now) (left c.loop-place.src) (left c.take_node.new.src) _ inv.reached first (c.in_err-node.ensures.node inv.nodes inv.counted at))

pub loop-place-preserved : goal.loop-place-preserved
loop-place-preserved g c =
    let left = g.S.Source.left in
    let inv = c.loop-place.invariant in
    let node = c.in_ok-node.node in
    let first = sym c.due.ensures ∙ c.in-Some.is in
    let at = first_after check_claims c.args.limit c.args.header.now c.loop-place.walk inv.nodes c.in-Some.place c.args.lines.now c.loop-place.lines
    (left c.args.src.now) (left c.loop-place.src) inv.reached first in
    let one = c.in_ok-node.ensures.node inv.nodes inv.counted at in
    record {
      nodes = inv.nodes ++ node ∷ [];
      counted = omega (arith, inv.counted, length-append inv.nodes (node ∷ []));
      reached =
          after_node check_claims c.args.limit c.args.header.now c.loop-place.walk c.step.new.self inv.nodes c.in-Some.place node
          c.args.lines.now c.loop-place.lines c.take_node.new.lines
          (left c.args.src.now) (left c.loop-place.src) (left c.take_node.new.src) inv.reached c.step.ensures first one;
      within = omega (arith, inv.counted, one.says.within);
      number = omega (arith, inv.number, one.taken.number);
      kept = c.in_ok-node.ensures.kept ∙ inv.kept;
      cause = c.in_ok-node.ensures.cause ∙ inv.cause;
    }

pub returns-clause-nodes : goal.returns-clause-nodes
returns-clause-nodes g c =
    let left = g.S.Source.left in
    let inv = c.loop-place.invariant in (
      inv.nodes,
      inv.counted,
      all_nodes check_claims c.args.limit c.args.header.now c.loop-place.walk inv.nodes c.args.lines.now c.loop-place.lines
          (left c.args.src.now) (left c.loop-place.src) inv.reached (sym c.due.ensures ∙ c.in_default.is),
    )
