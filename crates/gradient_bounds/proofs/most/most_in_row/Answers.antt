use Rattle.gradient_bounds.proofs.Largest.{function_at_most}
use Rattle.gradient_bounds.proofs.most.most_in_row.Goals as goal

pub returns-in-None-clause-most : goal.returns-in-None-clause-most
returns-in-None-clause-most c v l shift lower =
    function_at_most c.args.functions.now c.greatest_in_row.ensures.word v c.args.k l shift c.requires lower
