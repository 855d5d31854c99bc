use Rattle.std.proofs.Common.{FitsSigned, false, pos, ◌-ℤ◌, ◌*ℤ◌, ◌≤ℤ◌, ◌≤◌, ◌^◌, unsigned_abs, lit<, arith}
use Rattle.std.specs.Int.{w128}
use Rattle.std.proofs.lemmas.Int.{to_z-of_z, ints}
use Rattle.std.proofs.lemmas.Nat.{pow_pos}
use borrow.Author.Differences.{at_most_in}
use Rattle.directed_fixed.proofs.Rounding.{ceiling_of_floor_of_product, negative_fits, product_size}
use Rattle.directed_fixed.proofs.direction.UpDirection.mul.Goals as goal

pub returns : goal.returns
returns c =
    let a : FitsSigned w128 c.args.a = c.ranges.a in
    let b : FitsSigned w128 c.args.b = c.ranges.b in
    let q : FitsSigned w128 c.mul.result = record { sfits = c.mul.type_inv } in
    let a' : FitsSigned w128 (pos 0 -ℤ c.args.a) = omega (arith, ints) in
    let floor = simp to_z-of_z at c.mul.ensures in
    let positive : pos 1 ≤ℤ pos (2 ^ c.args.bits) = at_most_in (pos 1) (pos (2 ^ c.args.bits)) (omega (arith, pow_pos c.args.bits)) in
    let size : unsigned_abs ((pos 0 -ℤ c.args.a) *ℤ c.args.b) ≤ 2 ^ 126 =
    product_size (pos 0 -ℤ c.args.a) c.args.b (2 ^ 63) (2 ^ 63) (omega (arith, ints)) c.requires.second_factor
    in
    let q' : FitsSigned w128 (pos 0 -ℤ c.mul.result) =
    negative_fits false c.mul.result ((pos 0 -ℤ c.args.a) *ℤ c.args.b) (pos (2 ^ c.args.bits)) (2 ^ 126) positive floor size (lit< tt)
    in
    simp to_z-of_z (ceiling_of_floor_of_product c.mul.result c.args.a c.args.b (pos (2 ^ c.args.bits)) floor)
