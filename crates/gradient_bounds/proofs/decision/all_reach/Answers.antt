use Rattle.std.proofs.Common.{◌≡◌, refl, ℕ, length, slice_index_or, below_more, arith}
use Rattle.edge_words.specs.Letters.{IsPlace}
use Rattle.gradient_bounds.specs.Decision.{needed_by, difference, Reaches, EachReaches}
use Rattle.gradient_bounds.proofs.AllEdges.{all_reached}
use Rattle.gradient_bounds.proofs.Deciding.{holds}
use Rattle.gradient_bounds.proofs.decision.all_reach.Goals as goal

pub loop-k-preserved : goal.loop-k-preserved
loop-k-preserved c =
    let w = c.args.functions.now in
    let N = needed_by c.args.threshold.now in
    let edges = c.upper_edges-edges.result.now in
    below_more
    (λ i. (b : ℕ) → IsPlace w b → Reaches N w (slice_index_or edges i 0) b (difference c.args.uppers.now c.args.lowers.now (slice_index_or edges i 0) b))
    c.loop-k.k-index c.loop-k.invariant (c.if-not-row_reaches.ensures.0 refl)

pub returns : goal.returns
returns c =
    let w = c.args.functions.now in
    let N = needed_by c.args.threshold.now in
    let edges = c.upper_edges-edges.result.now in
    let end : c.loop-k.k-index ≡ length edges = omega (arith, c.loop-k-test.false, c.loop-k.auto.k-index-end) in
    holds (EachReaches N w c.args.uppers.now c.args.lowers.now)
    (all_reached N w c.args.uppers.now c.args.lowers.now c.requires.uppers c.requires.lowers edges c.upper_edges-edges.ensures.heights
    (λ i below. c.loop-k.invariant i (omega (arith, end, below))))
