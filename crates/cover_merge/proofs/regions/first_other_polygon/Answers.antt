-- The first polygon with other corners, or none.
use Rattle.std.proofs.Common.{sym, subst, ◌+◌, ◌<◌, ℕ, length, get_or, arith}
use Rattle.std.specs.List.{flat_map}
use Rattle.rational_polygon.specs.Outline.{Outline}
use Rattle.covering_file.specs.Header.{polygon_lines}
use Rattle.cover_merge.specs.Rounds.{DifferAfter}
use Rattle.cover_merge.proofs.Differing.{polygons_differ, same_polygons}
use Rattle.cover_merge.proofs.regions.first_other_polygon.Goals as goal

pub returns-in-Some-clause-found : goal.returns-in-Some-clause-found
returns-in-Some-clause-found c =
    let os = c.args.polygons.now in
    let ps = c.args.others.now in
    let o = c.index-polygons-k.result in
    let p = c.index-others-k.result in
    let in_ps : c.loop-k.k < length ps = omega (arith, c.loop-k-test.true, c.requires.count) in
    let differ = subst (λ (x : Outline). DifferAfter (polygon_lines x) (polygon_lines (get_or ps c.loop-k.k p)) c.in-Some.same) c.index-polygons-k.is
    (subst (λ (x : Outline). DifferAfter (polygon_lines o) (polygon_lines x) c.in-Some.same) c.index-others-k.is c.in-Some.ensures.found) in
    subst (λ (n : ℕ). DifferAfter (flat_map polygon_lines os) (flat_map polygon_lines ps) (n + c.in-Some.same)) (sym c.loop-k.invariant.lines)
    (polygons_differ os ps c.loop-k.k c.in-Some.same o p c.loop-k-test.true in_ps c.loop-k.invariant.alike differ)

pub returns-clause-found : goal.returns-clause-found
returns-clause-found c =
    same_polygons c.args.polygons.now c.args.others.now c.loop-k.k c.requires.count c.loop-k-test.false c.loop-k.invariant.alike
