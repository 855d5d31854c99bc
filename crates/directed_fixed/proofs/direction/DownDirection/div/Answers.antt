use Rattle.std.proofs.Common.{FitsSigned}
use Rattle.std.specs.Int.{w128}
use Rattle.std.proofs.lemmas.Int.{to_z-of_z}
use Rattle.directed_fixed.proofs.Rounding.{floor_of_division}
use Rattle.directed_fixed.proofs.direction.DownDirection.div.Goals as goal

pub returns : goal.returns
returns c =
    let a : FitsSigned w128 c.args.a = c.ranges.a in
    let b : FitsSigned w128 c.args.b = c.ranges.b in
    let r : FitsSigned w128 c.div_euclid.result = record { sfits = c.div_euclid.type_inv } in
    let e = simp to_z-of_z at c.div_euclid.ensures in
    simp to_z-of_z (rw e (floor_of_division c.args.a c.args.b c.requires.positive))
