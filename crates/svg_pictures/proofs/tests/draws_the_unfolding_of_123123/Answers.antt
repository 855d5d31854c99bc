use Rattle.svg_pictures.proofs.Thirds.{positive, below_one}
use Rattle.svg_pictures.proofs.tests.draws_the_unfolding_of_123123.Goals as goal

pub write_unfolding-requires-clause-first : goal.write_unfolding-requires-clause-first
write_unfolding-requires-clause-first g c = positive c.new-3.result c.new-3.ensures

pub write_unfolding-requires-clause-second : goal.write_unfolding-requires-clause-second
write_unfolding-requires-clause-second g c = positive c.new-4.result c.new-4.ensures

pub write_unfolding-requires-clause-third : goal.write_unfolding-requires-clause-third
write_unfolding-requires-clause-third g c = below_one c.new-3.result c.new-4.result c.new-3.ensures c.new-4.ensures
