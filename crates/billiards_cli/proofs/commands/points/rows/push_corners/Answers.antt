use Rattle.std.proofs.Common.{◌≡◌, ℕ, ◌+◌, ◌*◌, List, sym, subst, arith}
use Rattle.billiards_cli.specs.Commands.Points.{AreCornersUpTo}
use Rattle.billiards_cli.specs.declared.commands.points.corner_spot.CornerSpot.{CornerSpot}
use Rattle.billiards_cli.proofs.CornerRows.{corners_more}
use Rattle.billiards_cli.proofs.commands.points.rows.push_corners.Goals as goal

pub loop-corner-init : goal.loop-corner-init
loop-corner-init c = (3 * c.args.triangle, omega arith, c.requires.before)

pub loop-corner-preserved : goal.loop-corner-preserved
loop-corner-preserved c =
    let w = c.args.unfolded.now in
    let at = c.args.plane.now in
    let before = c.loop-corner.invariant in
    let row = c.corner_spot.result in
    let place : row.triangle * 3 + row.corner ≡ before.0 + 1 = omega (arith, c.corner_spot.ensures.triangle, c.corner_spot.ensures.corner, before.1) in
    let more = corners_more w at before.0 c.loop-corner.corners.items row before.2 place c.corner_spot.ensures.spot in (
      before.0 + 1,
      omega (arith, before.1),
      subst (λ (rows : List CornerSpot). AreCornersUpTo w at (before.0 + 1) rows) (sym c.in_ok-push.ensures.items) more,
    )

pub returns : goal.returns
returns c =
    let before = c.loop-corner.invariant in
    let all : before.0 ≡ 3 * (c.args.triangle + 1) = omega (arith, before.1, c.loop-corner-test.false, c.loop-corner.auto.corner-end (omega arith)) in
    subst (λ (n : ℕ). AreCornersUpTo c.args.unfolded.now c.args.plane.now n c.loop-corner.corners.items) all before.2
