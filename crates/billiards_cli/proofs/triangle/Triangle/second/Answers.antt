use Rattle.billiards_cli.proofs.Triangles.{are_a_triangle}
use Rattle.billiards_cli.proofs.triangle.Triangle.second.Goals as goal

pub returns-clause-triangle : goal.returns-clause-triangle
returns-clause-triangle c = rw (← c.self.view_is) (are_a_triangle _ c.self.invariant.0)
