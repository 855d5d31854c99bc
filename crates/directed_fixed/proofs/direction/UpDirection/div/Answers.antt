use Rattle.std.proofs.Common.{FitsSigned, false, pos, ◌-ℤ◌, ◌^◌, lit<, arith}
use Rattle.std.specs.Int.{w128}
use Rattle.std.proofs.lemmas.Int.{to_z-of_z, ints}
use Rattle.directed_fixed.proofs.Rounding.{ceiling_of_floor, negative_fits}
use Rattle.directed_fixed.proofs.direction.UpDirection.div.Goals as goal

pub returns : goal.returns
returns c =
    let a : FitsSigned w128 c.args.a = c.ranges.a in
    let b : FitsSigned w128 c.args.b = c.ranges.b in
    let q : FitsSigned w128 c.div.result = record { sfits = c.div.type_inv } in
    let a' : FitsSigned w128 (pos 0 -ℤ c.args.a) = omega (arith, ints) in
    let floor = simp to_z-of_z at c.div.ensures in
    let q' : FitsSigned w128 (pos 0 -ℤ c.div.result) =
    negative_fits false c.div.result (pos 0 -ℤ c.args.a) c.args.b (2 ^ 120) c.requires.positive floor (omega (arith, ints)) (lit< tt)
    in
    simp to_z-of_z (ceiling_of_floor c.div.result c.args.a c.args.b floor)
