use Rattle.std.proofs.Common.{◌*◌}
use Rattle.billiards_cli.specs.Commands.Points.{AreCornersUpTo}
use Rattle.billiards_cli.proofs.commands.points.rows.corner_spots.Given as goal

-- the corners of the triangles so far are listed
abbrev pub invariant-loop-triangle : goal.invariant-loop-triangle
invariant-loop-triangle l = AreCornersUpTo l.unfolded l.plane (3 * l.triangle) l.corners.items
