use Rattle.std.proofs.Common.{◌≡◌, refl, ℕ, length, slice_index_or, subst, sym, FitsSigned, below_more, arith}
use Rattle.std.specs.Int.{w128}
use Rattle.std.proofs.lemmas.Int.{to_z-of_z}
use Rattle.edge_words.specs.Letters.{IsPlace}
use Rattle.gradient_bounds.specs.Decision.{needed_by, difference, Reaches}
use Rattle.gradient_bounds.proofs.AllEdges.{row_reached}
use Rattle.gradient_bounds.proofs.Deciding.{holds, then_not}
use Rattle.gradient_bounds.proofs.decision.each_in_row_reaches.Goals as goal

pub returns-then-not-surely_reaches : goal.returns-then-not-surely_reaches
returns-then-not-surely_reaches c =
    let w = c.args.functions.now in
    let k = c.args.k in
    let N = needed_by c.args.threshold.now in
    let edges = c.lower_edges-edges.result.now in
    let e = slice_index_or edges c.loop-l.l-index 0 in
    let gap : FitsSigned w128 c.difference-gap.result = record { sfits = c.difference-gap.type_inv } in
    let place : IsPlace w e = c.lower_edges-edges.ensures.heights.places c.loop-l.l-index 0 c.loop-l-test.true in
    then_not (Reaches N w k e c.difference-gap.result) ((l : ℕ) → IsPlace w l → Reaches N w k l (difference c.args.uppers.now c.args.lowers.now k l))
    (simp to_z-of_z at c.if-not-surely_reaches.ensures)
    (λ each. subst (Reaches N w k e) (sym c.difference-gap.ensures.is) (each e place))

pub loop-l-preserved : goal.loop-l-preserved
loop-l-preserved c =
    let w = c.args.functions.now in
    let k = c.args.k in
    let N = needed_by c.args.threshold.now in
    let edges = c.lower_edges-edges.result.now in
    let e = slice_index_or edges c.loop-l.l-index 0 in
    let gap : FitsSigned w128 c.difference-gap.result = record { sfits = c.difference-gap.type_inv } in
    let iff = simp to_z-of_z at c.if-not-surely_reaches.ensures in
    below_more (λ j. Reaches N w k (slice_index_or edges j 0) (difference c.args.uppers.now c.args.lowers.now k (slice_index_or edges j 0)))
    c.loop-l.l-index c.loop-l.invariant (subst (Reaches N w k e) c.difference-gap.ensures.is (iff.0 refl))

pub returns : goal.returns
returns c =
    let w = c.args.functions.now in
    let k = c.args.k in
    let N = needed_by c.args.threshold.now in
    let edges = c.lower_edges-edges.result.now in
    let end : c.loop-l.l-index ≡ length edges = omega (arith, c.loop-l-test.false, c.loop-l.auto.l-index-end) in
    holds ((l : ℕ) → IsPlace w l → Reaches N w k l (difference c.args.uppers.now c.args.lowers.now k l))
    (row_reached N w c.args.uppers.now c.args.lowers.now c.requires.uppers c.requires.lowers k edges c.requires.place c.lower_edges-edges.ensures.heights
    (λ j below. c.loop-l.invariant j (omega (arith, end, below))))
