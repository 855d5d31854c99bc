use Rattle.gradient_bounds.proofs.Margins.{clear_at_point_gives_corridor_lem}
use Rattle.gradient_bounds.proofs.laws.clear_at_point_gives_corridor.Goals as goal

pub returns : goal.returns
returns c = clear_at_point_gives_corridor_lem
