use Rattle.std.proofs.Common.{◌≡◌, sym, subst, ◌∙◌, ◌^◌, ◌*ℤ◌, FitsSigned}
use Rattle.std.specs.Int.{w64, w128}
use Rattle.std.proofs.lemmas.Int.{to_z-of_z}
use Rattle.std.proofs.Math.Path.{ap₂}
use Rattle.rat_core.specs.Fraction.{◌÷◌, ◌*ℚ◌}
use Rattle.directed_fixed.specs.Ends.{Ends, Encloses, IsWithin, multiple_of}
use Rattle.directed_fixed.proofs.Enclosing.{multiple_encloses}
use Rattle.directed_fixed.proofs.Sizes.{end_fits, multiple_size, multiple_ends, multiple_interval}
use Rattle.directed_fixed.proofs.interval.Interval.scale.Goals as goal

pub new-requires : goal.new-requires
new-requires g c =
    let factor : FitsSigned w64 c.args.c = c.ranges.c in
    let from = simp to_z-of_z at c.from-factor.ensures in
    let factor' : FitsSigned w128 c.from-factor.result = record { sfits = c.from-factor.type_inv } in
    let lo = end_fits c.self.inside.lo c.self.invariant.in_range.low in
    let hi = end_fits c.self.inside.hi c.self.invariant.in_range.high in
    let multiples = ap₂ multiple_of from c.self.view_is in
    let size = subst (IsWithin (2 ^ 100)) (sym multiples) c.requires in
    let sizes = multiple_size (c.from-factor.result *ℤ c.self.inside.lo) (c.from-factor.result *ℤ c.self.inside.hi) (2 ^ 100) size.low size.high in
    let at_lo = end_fits (c.from-factor.result *ℤ c.self.inside.lo) sizes.0 in
    let at_hi = end_fits (c.from-factor.result *ℤ c.self.inside.hi) sizes.1 in
    let low : FitsSigned w128 c.min.result = record { sfits = c.min.type_inv } in
    let high : FitsSigned w128 c.max.result = record { sfits = c.max.type_inv } in
    let min_is = simp to_z-of_z at c.min.ensures.value in
    let max_is = simp to_z-of_z at c.max.ensures.value in
    let inside : Ends = record { lo = c.self.inside.lo; hi = c.self.inside.hi } in
    let ends : Ends = record { lo = c.min.result; hi = c.max.result } in
    let ends_are = multiple_ends c.from-factor.result inside c.min.result c.max.result min_is max_is in
    simp to_z-of_z (multiple_interval c.from-factor.result inside ends ends_are size)

pub returns-clause-ends : goal.returns-clause-ends
returns-clause-ends g c =
    let factor : FitsSigned w64 c.args.c = c.ranges.c in
    let from = simp to_z-of_z at c.from-factor.ensures in
    let factor' : FitsSigned w128 c.from-factor.result = record { sfits = c.from-factor.type_inv } in
    let lo = end_fits c.self.inside.lo c.self.invariant.in_range.low in
    let hi = end_fits c.self.inside.hi c.self.invariant.in_range.high in
    let multiples = ap₂ multiple_of from c.self.view_is in
    let size = subst (IsWithin (2 ^ 100)) (sym multiples) c.requires in
    let sizes = multiple_size (c.from-factor.result *ℤ c.self.inside.lo) (c.from-factor.result *ℤ c.self.inside.hi) (2 ^ 100) size.low size.high in
    let at_lo = end_fits (c.from-factor.result *ℤ c.self.inside.lo) sizes.0 in
    let at_hi = end_fits (c.from-factor.result *ℤ c.self.inside.hi) sizes.1 in
    let low : FitsSigned w128 c.min.result = record { sfits = c.min.type_inv } in
    let high : FitsSigned w128 c.max.result = record { sfits = c.max.type_inv } in
    let min_is = simp to_z-of_z at c.min.ensures.value in
    let max_is = simp to_z-of_z at c.max.ensures.value in
    let is : c.new.result ≡ record { lo = c.min.result; hi = c.max.result } = simp to_z-of_z at c.new.ensures in
    let inside : Ends = record { lo = c.self.inside.lo; hi = c.self.inside.hi } in
    is ∙ multiple_ends c.from-factor.result inside c.min.result c.max.result min_is max_is ∙ multiples

pub returns-clause-multiples : goal.returns-clause-multiples
returns-clause-multiples g c =
    λ u h. subst (λ x. Encloses g.S.Scale.BITS x (c.args.c ÷ 1 *ℚ u)) (sym (returns-clause-ends g c))
    (multiple_encloses g.S.Scale.BITS c.args.c c.args.self u h)
