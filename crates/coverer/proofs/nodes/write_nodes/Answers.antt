-- Each node stands by its cause at the first due box.
use Rattle.std.proofs.Common.{refl, sym, ap, ◌∙◌, subst, ◌<◌, [], ◌∷◌, ◌++◌, length, length-append, arith}
use Rattle.std.proofs.KnownBytes.{Appends-nil}
use Rattle.std.proofs.lemmas.Result.{err_from_is_err_and}
use Rattle.covering_file.specs.Node.{IsLeaf, is_uncovered}
use Rattle.covering_file.proofs.NodeLines.{not_uncovered}
use Rattle.coverer.proofs.Lines.{wrote_one, failed_in_one, uncovered_more, uncovered_same}
use Rattle.coverer.proofs.Reached.{HasReached, at_start, begun_next, next_reached, is_due_box, split_reached, after_leaf, leaf_if_not_split}
use Rattle.coverer.proofs.nodes.write_nodes.Goals as goal

pub loop-place-init : goal.loop-place-init
loop-place-init g c =
    record {
      tests = refl;
      nodes = [];
      reached =
          subst (HasReached c.args.limit c.args.header.now []) (sym c.new-due.ensures)
          (at_start c.args.limit c.args.header.now c.all.result c.words-words.ensures.is_heading c.all.ensures);
      counted = refl;
      uncovered = refl;
      text = Appends-nil (g.K.Sink.written c.args.out.now);
      room = refl;
      faults = refl;
    }

pub choose-node-requires-clause-level : goal.choose-node-requires-clause-level
choose-node-requires-clause-level g c =
    let inv = c.loop-place.invariant in
    let reached = next_reached c.args.limit c.args.header.now inv.nodes c.loop-place.due _ c.pop.new.self inv.reached c.in-Some.ensures.first in
    (is_due_box c.args.limit c.args.header.now inv.nodes _ c.pop.new.self reached).deep

pub choose-node-requires-clause-shut : goal.choose-node-requires-clause-shut
choose-node-requires-clause-shut g c =
    let inv = c.loop-place.invariant in
    let reached = next_reached c.args.limit c.args.header.now inv.nodes c.loop-place.due _ c.pop.new.self inv.reached c.in-Some.ensures.first in
    (is_due_box c.args.limit c.args.header.now inv.nodes _ c.pop.new.self reached).shut

pub returns-in_err-write_node-clause-failed : goal.returns-in_err-write_node-clause-failed
returns-in_err-write_node-clause-failed g c =
    let k = g.K.Sink in
    let inv = c.loop-place.invariant in
    let node = c.choose-node.result.node in
    let reached = next_reached c.args.limit c.args.header.now inv.nodes c.loop-place.due _ c.pop.new.self inv.reached c.in-Some.ensures.first in
    let space : length inv.nodes < c.args.limit = omega (arith, inv.counted, c.if-nodes-limit.false) in
    let p = err_from_is_err_and c.from_residual.result c.from_residual.ensures.1 in
    rw p.1 (
      inv.nodes ++ node ∷ [],
      begun_next c.args.limit c.args.header.now inv.nodes node _ c.pop.new.self reached space c.choose-node.ensures.cause,
      failed_in_one (k.written c.args.out.now) (k.written c.loop-place.out) (k.written c.write_node.new.out) inv.nodes node inv.text
          c.in_err-write_node.ensures.text,
    )

pub loop-place-preserved-in-Split : goal.loop-place-preserved-in-Split
loop-place-preserved-in-Split g c =
    let k = g.K.Sink in
    let inv = c.loop-place.invariant in
    let node = c.choose-node.result.node in
    let reached = next_reached c.args.limit c.args.header.now inv.nodes c.loop-place.due _ c.pop.new.self inv.reached c.in-Some.ensures.first in
    let space : length inv.nodes < c.args.limit = omega (arith, inv.counted, c.if-nodes-limit.false) in
    record {
      tests = c.choose-node.ensures.kept ∙ inv.tests;
      nodes = inv.nodes ++ node ∷ [];
      reached =
          split_reached c.args.limit c.args.header.now inv.nodes node c.choose-node.result.below _ c.pop.new.self c.split.new.self reached space
          c.choose-node.ensures.cause c.in-Split.is c.choose-node.ensures.shut c.split.ensures;
      counted = omega (arith, inv.counted, length-append inv.nodes (node ∷ []));
      uncovered = inv.uncovered ∙ sym (uncovered_same inv.nodes node (ap is_uncovered c.in-Split.is));
      text =
          wrote_one (k.written c.args.out.now) (k.written c.loop-place.out) (k.written c.write_node.new.out) inv.nodes node inv.text
          c.in_ok-write_node.ensures.text;
      room = c.in_ok-write_node.ensures.room ∙ inv.room;
      faults = c.in_ok-write_node.ensures.cause.kept ∙ inv.faults;
    }

pub loop-place-preserved-in-Uncovered : goal.loop-place-preserved-in-Uncovered
loop-place-preserved-in-Uncovered g c =
    let k = g.K.Sink in
    let inv = c.loop-place.invariant in
    let node = c.choose-node.result.node in
    let reached = next_reached c.args.limit c.args.header.now inv.nodes c.loop-place.due _ c.pop.new.self inv.reached c.in-Some.ensures.first in
    let space : length inv.nodes < c.args.limit = omega (arith, inv.counted, c.if-nodes-limit.false) in
    record {
      tests = c.choose-node.ensures.kept ∙ inv.tests;
      nodes = inv.nodes ++ node ∷ [];
      reached =
          after_leaf c.args.limit c.args.header.now inv.nodes node _ c.pop.new.self reached space c.choose-node.ensures.cause
          (subst IsLeaf (sym c.in-Uncovered.is) tt);
      counted = omega (arith, inv.counted, length-append inv.nodes (node ∷ []));
      uncovered = omega (arith, inv.uncovered, uncovered_more inv.nodes node c.in-Uncovered.is);
      text =
          wrote_one (k.written c.args.out.now) (k.written c.loop-place.out) (k.written c.write_node.new.out) inv.nodes node inv.text
          c.in_ok-write_node.ensures.text;
      room = c.in_ok-write_node.ensures.room ∙ inv.room;
      faults = c.in_ok-write_node.ensures.cause.kept ∙ inv.faults;
    }

pub loop-place-preserved : goal.loop-place-preserved
loop-place-preserved g c =
    let k = g.K.Sink in
    let inv = c.loop-place.invariant in
    let node = c.choose-node.result.node in
    let reached = next_reached c.args.limit c.args.header.now inv.nodes c.loop-place.due _ c.pop.new.self inv.reached c.in-Some.ensures.first in
    let space : length inv.nodes < c.args.limit = omega (arith, inv.counted, c.if-nodes-limit.false) in
    record {
      tests = c.choose-node.ensures.kept ∙ inv.tests;
      nodes = inv.nodes ++ node ∷ [];
      reached =
          after_leaf c.args.limit c.args.header.now inv.nodes node _ c.pop.new.self reached space c.choose-node.ensures.cause
          (leaf_if_not_split node c.in_default-node.not-Split);
      counted = omega (arith, inv.counted, length-append inv.nodes (node ∷ []));
      uncovered = inv.uncovered ∙ sym (uncovered_same inv.nodes node (not_uncovered node c.in_default-node.not-Uncovered));
      text =
          wrote_one (k.written c.args.out.now) (k.written c.loop-place.out) (k.written c.write_node.new.out) inv.nodes node inv.text
          c.in_ok-write_node.ensures.text;
      room = c.in_ok-write_node.ensures.room ∙ inv.room;
      faults = c.in_ok-write_node.ensures.cause.kept ∙ inv.faults;
    }
