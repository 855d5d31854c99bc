use Rattle.std.proofs.Common.{FitsSigned}
use Rattle.std.specs.Int.{w128}
use Rattle.std.proofs.lemmas.Int.{to_z-of_z}
use Rattle.pi_bounds.proofs.Terms.{part_narrow}
use Rattle.pi_bounds.proofs.series.part.Goals as goal

pub returns-clause-narrow : goal.returns-clause-narrow
returns-clause-narrow g c =
    let divisor : FitsSigned w128 c.from.result = record { sfits = c.from.type_inv } in
    part_narrow c.args.x c.div_int.result c.args.d c.requires.divisor
    (simp c.from.ensures at (simp to_z-of_z at c.div_int.ensures.lo)) (simp c.from.ensures at (simp to_z-of_z at c.div_int.ensures.hi)) c.requires.narrow
