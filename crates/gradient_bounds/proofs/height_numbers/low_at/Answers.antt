use Rattle.gradient_bounds.proofs.Placing.{low_found}
use Rattle.gradient_bounds.proofs.height_numbers.low_at.Goals as goal

pub returns : goal.returns
returns c = low_found c.args.table.now c.args.place _ c.requires.rising c.requires.small c.requires.place
