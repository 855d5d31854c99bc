use Rattle.std.proofs.Common.{◌≡◌, ℕ, ◌+◌, ◌*◌}
use Rattle.billiards_cli.specs.Commands.Points.{AreCornersUpTo}
use Rattle.billiards_cli.proofs.commands.points.rows.push_corners.Given as goal

-- the corners before this one are listed
abbrev pub invariant-loop-corner : goal.invariant-loop-corner
invariant-loop-corner l =
    (count : ℕ) × (3 * l.triangle + l.corner ≡ count + 1) × AreCornersUpTo l.unfolded l.plane count l.corners.items
