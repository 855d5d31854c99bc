use Rattle.std.proofs.Common.{◌≡◌, length, arith}
use Rattle.gradient_bounds.specs.Decision.{needed_by, SomeFallsBelow}
use Rattle.gradient_bounds.proofs.AllEdges.{none_falls_at}
use Rattle.gradient_bounds.proofs.Deciding.{fails}
use Rattle.gradient_bounds.proofs.falls.one_falls.Goals as goal

pub returns : goal.returns
returns c =
    let w = c.args.functions.now in
    let N = needed_by c.args.threshold.now in
    let edges = c.upper_edges-edges.result.now in
    let end : c.loop-k.k-index ≡ length edges = omega (arith, c.loop-k-test.false, c.loop-k.auto.k-index-end) in
    fails (SomeFallsBelow N w c.args.uppers.now c.args.lowers.now)
    (none_falls_at N w c.args.uppers.now c.args.lowers.now c.requires.uppers c.requires.lowers edges c.upper_edges-edges.ensures.heights
    (λ i below. c.loop-k.invariant i (omega (arith, end, below))))
