-- The counts differ, or the first corners that do.
use Rattle.std.proofs.Common.{get_or}
use Rattle.cover_merge.proofs.Differing.{pair_differs, counts_differ, polygon_differs, same_polygon}
use Rattle.cover_merge.proofs.regions.first_other_corner.Goals as goal

pub returns-then-corners-others-clause-found : goal.returns-then-corners-others-clause-found
returns-then-corners-others-clause-found c =
    counts_differ c.args.polygon.now c.args.other.now c.corners-corners.result.now c.corners-others.result.now c.corners-corners.ensures.all
    c.corners-others.ensures.all c.corners-corners.ensures.is_polygon c.if-corners-others.true

pub returns-then-ne-clause-found : goal.returns-then-ne-clause-found
returns-then-ne-clause-found c =
    polygon_differs c.args.polygon.now c.args.other.now c.corners-corners.result.now c.corners-others.result.now c.loop-k.k (0, 0)
    c.corners-corners.ensures.all c.corners-others.ensures.all c.corners-corners.ensures.is_polygon c.if-corners-others.false c.loop-k-test.true
    c.loop-k.invariant
    (pair_differs (get_or c.corners-corners.result.now c.loop-k.k (0, 0)) (get_or c.corners-others.result.now c.loop-k.k (0, 0)) c.ne.result
    c.ne.ensures c.if-ne.true)

pub returns-clause-found : goal.returns-clause-found
returns-clause-found c =
    same_polygon c.args.polygon.now c.args.other.now c.corners-corners.result.now c.corners-others.result.now c.loop-k.k
    c.corners-corners.ensures.all c.corners-others.ensures.all c.if-corners-others.false c.loop-k-test.false c.loop-k.invariant
