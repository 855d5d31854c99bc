use Rattle.std.proofs.Common.{◌≡◌, ◌*◌, ◌^◌, ◌≤◌, sym, subst, FitsSigned, arith, mul-le-mul_left}
use Rattle.std.specs.Int.{w128}
use Rattle.std.proofs.lemmas.Int.{to_z-of_z}
use Rattle.std.proofs.lemmas.Nat.{pow_pos}
use Rattle.std.proofs.Math.Pow.{pow_mono}
use Rattle.rat_core.specs.Fraction.{◌*ℚ◌}
use Rattle.directed_fixed.specs.Ends.{Ends, Encloses, IsInterval}
use Rattle.directed_fixed.proofs.Enclosing.{product_encloses}
use Rattle.directed_fixed.proofs.Sizes.{product_within, products_in_order}
use Rattle.directed_fixed.proofs.interval.Interval.times.Goals as goal

pub new-requires : goal.new-requires
new-requires g c =
    let bits = g.S.Scale.BITS in
    let low : FitsSigned w128 c.outer_product.result = record { sfits = c.outer_product.type_inv } in
    let high : FitsSigned w128 c.outer_product-2.result = record { sfits = c.outer_product-2.type_inv } in
    let ends : Ends = record { lo = c.outer_product.result; hi = c.outer_product-2.result } in
    let units : 2 ^ 30 ≤ 2 ^ bits = pow_mono g.S.Scale.bits_in_range.0 in
    let room : 2 ^ 100 * 2 ^ 30 ≤ 2 ^ 100 * 2 ^ bits = mul-le-mul_left (2 ^ 100) units in
    let interval : IsInterval ends =
    record {
      in_order = products_in_order c.args.self c.args.other ends (2 ^ bits) (pow_pos bits) c.outer_product.ensures c.outer_product-2.ensures;
      in_range = product_within c.args.self c.args.other ends (2 ^ bits) (2 ^ 62) (2 ^ 62) (2 ^ 100)
          (pow_pos bits) c.outer_product.ensures c.outer_product-2.ensures
          c.requires.first_factor c.requires.second_factor (omega (arith, room));
    }
    in
    simp to_z-of_z interval

pub returns-clause-products : goal.returns-clause-products
returns-clause-products g c =
    let bits = g.S.Scale.BITS in
    let low : FitsSigned w128 c.outer_product.result = record { sfits = c.outer_product.type_inv } in
    let high : FitsSigned w128 c.outer_product-2.result = record { sfits = c.outer_product-2.type_inv } in
    let ends : Ends = record { lo = c.outer_product.result; hi = c.outer_product-2.result } in
    let is : c.new.result ≡ ends = simp to_z-of_z at c.new.ensures in
    λ u v h k. subst (λ x. Encloses bits x (u *ℚ v)) (sym is)
    (product_encloses bits c.args.self c.args.other ends u v c.outer_product.ensures c.outer_product-2.ensures h k)
