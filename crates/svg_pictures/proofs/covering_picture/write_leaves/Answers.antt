-- The next node is drawn at the box that is due.
use Rattle.std.proofs.Common.{refl, sym, ap, ◌∙◌, subst, Option}
use Rattle.std.proofs.lemmas.List.{take_all}
use Rattle.std.specs.Prelude.{IsSome}
use Rattle.mcb_ends.proofs.Written.{Writes-failed}
use Rattle.rational_polygon.specs.Square.{Square, unit_square}
use Rattle.covering_file.specs.Header.{Heading}
use Rattle.covering_file.specs.Walk.{Frontier}
use Rattle.svg_pictures.specs.CoveringPicture.{drawn}
use Rattle.svg_pictures.proofs.DrawnTrees.{none_drawn, next_is_due, may_step, one_more, cut_in_next, all_drawn}
use Rattle.svg_pictures.proofs.covering_picture.write_leaves.Goals as goal

pub loop-node-init : goal.loop-node-init
loop-node-init g c =
    let k = g.K.Sink in
    record {
      drawn =
          none_drawn c.args.tree.now c.nodes-nodes.result.now c.new-walk.result (k.written c.args.out.now) c.nodes-nodes.ensures.is_file
          c.nodes-nodes.ensures.all
          (ap (λ (w : Frontier). w.depth) c.new-walk.ensures ∙ c.depth.ensures.value ∙ ap (λ (h : Heading). h.depth) c.header.ensures.value)
          (ap (λ (w : Frontier). w.due) c.new-walk.ensures);
      room = refl;
      faults = refl;
    }

pub unwrap-place-requires : goal.unwrap-place-requires
unwrap-place-requires g c =
    let k = g.K.Sink in
    subst (λ (o : Option Square). IsSome o) (sym c.due.ensures)
    (next_is_due c.args.tree.now c.nodes-nodes.result.now c.loop-node.walk c.loop-node.node-index (k.written c.args.out.now) (k.written c.loop-node.out)
    c.loop-node.invariant.drawn c.loop-node-test.true)

pub step-requires : goal.step-requires
step-requires g c =
    let k = g.K.Sink in
    may_step c.args.tree.now c.nodes-nodes.result.now c.loop-node.walk c.loop-node.node-index (k.written c.args.out.now) (k.written c.loop-node.out)
    c.unwrap-place.result c.loop-node.invariant.drawn c.loop-node-test.true (sym c.due.ensures ∙ c.unwrap-place.ensures)

pub loop-node-preserved : goal.loop-node-preserved
loop-node-preserved g c =
    let k = g.K.Sink in
    let before = c.loop-node.invariant in
    let written = c.in_ok-write_node.ensures in
    record {
      drawn =
          one_more c.args.tree.now c.nodes-nodes.result.now c.loop-node.walk c.step.new.self c.loop-node.node-index c.unwrap-place.result
          (k.written c.args.out.now) (k.written c.loop-node.out) (k.written c.write_node.new.out) before.drawn c.loop-node-test.true
          (sym c.due.ensures ∙ c.unwrap-place.ensures) c.step.ensures written.text;
      room = written.room ∙ before.room;
      faults = written.cause.kept ∙ before.faults;
    }

pub returns-in_err-write_node-clause-text : goal.returns-in_err-write_node-clause-text
returns-in_err-write_node-clause-text g c t is =
    let k = g.K.Sink in
    let old = k.written c.args.out.now in
    let new = k.written c.write_node.new.out in
    Writes-failed old new c.from_residual.result (drawn unit_square t) c.from_residual.ensures.0
    (cut_in_next c.args.tree.now c.nodes-nodes.result.now c.loop-node.walk c.loop-node.node-index c.unwrap-place.result old (k.written c.loop-node.out) new t
    c.loop-node.invariant.drawn c.loop-node-test.true (sym c.due.ensures ∙ c.unwrap-place.ensures) is c.in_err-write_node.ensures.text)

pub returns-clause-text : goal.returns-clause-text
returns-clause-text g c t is =
    let k = g.K.Sink in
    all_drawn c.args.tree.now c.nodes-nodes.result.now c.loop-node.walk c.loop-node.node-index (k.written c.args.out.now) (k.written c.loop-node.out) t
    c.loop-node.invariant.drawn (take_all c.loop-node.node-index c.nodes-nodes.result.now c.loop-node-test.false) is
