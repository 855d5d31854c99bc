-- Before the first nodes the two trees are the one pair, and where one list ends no pair is left.
use Rattle.std.proofs.Common.{inl, inr, sym, subst, List}
use Rattle.covering_file.specs.declared.node.Node.{Node}
use Rattle.covering_file.specs.Tree.{preorder}
use Rattle.cover_merge.specs.Overlay.{overlay}
use Rattle.cover_merge.specs.Pairs.{PairsAhead}
use Rattle.cover_merge.proofs.Ahead.{pairs_first, all_written}
use Rattle.cover_merge.proofs.overlaying.overlay.Goals as goal
use Rattle.cover_merge.proofs.overlaying.overlay.Goals.{then-loop-at-test+else-at-second, else-loop-at-test}

pub loop-at-init : goal.loop-at-init
loop-at-init c s t of_s of_t =
    subst (λ (ns : List Node). PairsAhead c.args.first.now c.args.second.now (record { first = 0; second = 0 }) ns (preorder (overlay s t)))
    (sym c.new-nodes.ensures.items) (pairs_first c.args.first.now c.args.second.now s t of_s of_t)

pub returns : goal.returns
returns c s t of_s of_t =
    let ahead = c.loop-at.invariant s t of_s of_t in
    elim c.loop-at-test.branch [
      | then-loop-at-test+else-at-second w ↦
          all_written c.args.first.now c.args.second.now c.loop-at.at c.loop-at.nodes.items (preorder (overlay s t)) (inr w.if-at-second.false) ahead
      | else-loop-at-test w ↦
          all_written c.args.first.now c.args.second.now c.loop-at.at c.loop-at.nodes.items (preorder (overlay s t)) (inl w.loop-at-test.false) ahead
    ]
