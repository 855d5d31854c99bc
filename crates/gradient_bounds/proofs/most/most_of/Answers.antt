use Rattle.gradient_bounds.proofs.Largest.{function_at_most}
use Rattle.gradient_bounds.proofs.most.most_of.Goals as goal

pub returns-in-None-clause-most : goal.returns-in-None-clause-most
returns-in-None-clause-most c v k l shift upper lower = function_at_most c.args.functions.now c.greatest_sizes.ensures.word v k l shift upper lower
