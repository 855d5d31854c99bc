use Rattle.std.proofs.Common.{◌≡◌, ◌*◌, ◌+◌, ℕ, List, length, sym, subst, arith}
use Rattle.billiards_cli.specs.Commands.Points.{AreCornersUpTo}
use Rattle.billiards_cli.specs.declared.commands.points.corner_spot.CornerSpot.{CornerSpot}
use Rattle.billiards_cli.proofs.CornerRows.{no_corners}
use Rattle.billiards_cli.proofs.commands.points.rows.corner_spots.Goals as goal

pub loop-triangle-init : goal.loop-triangle-init
loop-triangle-init c =
    let w = c.args.unfolded.now in
    let at = c.args.plane.now in
    subst (λ (rows : List CornerSpot). AreCornersUpTo w at 0 rows) (sym c.new-corners.ensures.items) (no_corners w at)

pub returns : goal.returns
returns c =
    let letters = c.letters-triangle-end.ensures in
    let all : 3 * c.loop-triangle.triangle ≡ 3 * (length c.args.unfolded.now + 1) = omega (
      arith,
      letters.count,
      c.loop-triangle-test.false,
      c.loop-triangle.auto.triangle-end,
    ) in
    subst (λ (n : ℕ). AreCornersUpTo c.args.unfolded.now c.args.plane.now n c.loop-triangle.corners.items) all c.loop-triangle.invariant
