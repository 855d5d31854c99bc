use Rattle.std.proofs.Common.{◌≡◌, ◌∙◌, List, ℕ, ap₂, subst₂}
use Rattle.rat_core.specs.Written.{Written}
use Rattle.plane_points.specs.Spots.{TriangleAngles}
use Rattle.billiards_cli.specs.Commands.Points.{AreRows, angles_at}
use Rattle.billiards_cli.proofs.CornerRows.{rows_told}
use Rattle.billiards_cli.proofs.commands.points.rows.Rows.of.Goals as goal

pub returns : goal.returns
returns c =
    let there : c.at-plane.result ≡ angles_at c.args.triangle.now = c.at-plane.ensures
    ∙ ap₂ (λ (x y : Written). (x, y)) c.first.ensures.angle c.second.ensures.angle in
    let corners = c.in_ok-corners.corners.items in
    let shift = c.shift_spot-shift.result in
    subst₂ (λ (w : List ℕ) (at : TriangleAngles). AreRows w at corners shift) c.in_ok-unfolding.ensures.word there
    (rows_told _ _ corners shift c.in_ok-corners.ensures c.shift_spot-shift.ensures.some c.shift_spot-shift.ensures.none)
