use Rattle.std.proofs.Common.{◌≡◌, ◌^◌, sym, subst, FitsSigned}
use Rattle.std.specs.Int.{w128}
use Rattle.std.proofs.lemmas.Int.{to_z-of_z}
use Rattle.rat_core.specs.Fraction.{◌÷◌, ◌*ℚ◌}
use Rattle.directed_fixed.specs.Ends.{Ends, Encloses, IsInterval}
use Rattle.directed_fixed.proofs.Rounding.{rounded_in_order}
use Rattle.directed_fixed.proofs.Enclosing.{quotient_encloses}
use Rattle.directed_fixed.proofs.Sizes.{end_fits, quotient_not_larger}
use Rattle.directed_fixed.proofs.interval.Interval.div_int.Goals as goal

pub new-requires : goal.new-requires
new-requires g c =
    let d : FitsSigned w128 c.args.d = c.ranges.d in
    let lo = end_fits c.self.inside.lo c.self.invariant.in_range.low in
    let hi = end_fits c.self.inside.hi c.self.invariant.in_range.high in
    let low : FitsSigned w128 c.div.result = record { sfits = c.div.type_inv } in
    let high : FitsSigned w128 c.div-2.result = record { sfits = c.div-2.type_inv } in
    let floor = simp to_z-of_z at c.div.ensures in
    let ceiling = simp to_z-of_z at c.div-2.ensures in
    let ends : Ends = record { lo = c.div.result; hi = c.div-2.result } in
    let inside : Ends = record { lo = c.self.inside.lo; hi = c.self.inside.hi } in
    let interval : IsInterval ends =
    record {
      in_order = rounded_in_order c.div.result c.self.inside.lo c.div-2.result c.self.inside.hi c.args.d c.requires.positive floor ceiling
          c.self.invariant.in_order;
      in_range = quotient_not_larger inside ends c.args.d (2 ^ 100) c.requires.positive floor ceiling c.self.invariant.in_range;
    }
    in
    simp to_z-of_z interval

pub returns-clause-quotients : goal.returns-clause-quotients
returns-clause-quotients g c =
    let bits = g.S.Scale.BITS in
    let d : FitsSigned w128 c.args.d = c.ranges.d in
    let lo = end_fits c.self.inside.lo c.self.invariant.in_range.low in
    let hi = end_fits c.self.inside.hi c.self.invariant.in_range.high in
    let low : FitsSigned w128 c.div.result = record { sfits = c.div.type_inv } in
    let high : FitsSigned w128 c.div-2.result = record { sfits = c.div-2.type_inv } in
    let floor = simp to_z-of_z at c.div.ensures in
    let ceiling = simp to_z-of_z at c.div-2.ensures in
    let ends : Ends = record { lo = c.div.result; hi = c.div-2.result } in
    let inside : Ends = record { lo = c.self.inside.lo; hi = c.self.inside.hi } in
    let is : c.new.result ≡ ends = simp to_z-of_z at c.new.ensures in
    λ v h.
    subst (λ x. Encloses bits x v) (sym is)
    (quotient_encloses bits inside ends c.args.d v c.requires.positive floor ceiling
    (subst (λ x. Encloses bits x (v *ℚ (c.args.d ÷ 1))) (sym c.self.view_is) h))
