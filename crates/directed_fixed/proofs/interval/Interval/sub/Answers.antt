use Rattle.std.proofs.Common.{sym, subst, ◌∙◌, ◌^◌, ◌-ℤ◌}
use Rattle.std.proofs.Math.Path.{ap₂}
use Rattle.std.proofs.lemmas.Int.{to_z-of_z}
use Rattle.directed_fixed.specs.Ends.{Encloses, IsWithin, difference_of}
use Rattle.directed_fixed.proofs.Enclosing.{difference_encloses}
use Rattle.directed_fixed.proofs.Sizes.{end_fits, difference_in_order}
use Rattle.rat_core.specs.Fraction.{◌-ℚ◌}
use Rattle.directed_fixed.proofs.interval.Interval.sub.Goals as goal

pub new-requires : goal.new-requires
new-requires g c =
    let views = ap₂ difference_of c.self.view_is c.other.view_is in
    let size = subst (IsWithin (2 ^ 100)) (sym views) c.requires in
    let self_lo = end_fits c.self.inside.lo c.self.invariant.in_range.low in
    let self_hi = end_fits c.self.inside.hi c.self.invariant.in_range.high in
    let other_lo = end_fits c.other.inside.lo c.other.invariant.in_range.low in
    let other_hi = end_fits c.other.inside.hi c.other.invariant.in_range.high in
    let low = end_fits (c.self.inside.lo -ℤ c.other.inside.hi) size.low in
    let high = end_fits (c.self.inside.hi -ℤ c.other.inside.lo) size.high in
    simp to_z-of_z (record { in_order = difference_in_order _ _ c.self.invariant.in_order c.other.invariant.in_order; in_range = size })

pub returns-clause-ends : goal.returns-clause-ends
returns-clause-ends g c =
    let views = ap₂ difference_of c.self.view_is c.other.view_is in
    let size = subst (IsWithin (2 ^ 100)) (sym views) c.requires in
    let self_lo = end_fits c.self.inside.lo c.self.invariant.in_range.low in
    let self_hi = end_fits c.self.inside.hi c.self.invariant.in_range.high in
    let other_lo = end_fits c.other.inside.lo c.other.invariant.in_range.low in
    let other_hi = end_fits c.other.inside.hi c.other.invariant.in_range.high in
    let low = end_fits (c.self.inside.lo -ℤ c.other.inside.hi) size.low in
    let high = end_fits (c.self.inside.hi -ℤ c.other.inside.lo) size.high in
    (simp to_z-of_z at c.new.ensures) ∙ views

pub returns-clause-differences : goal.returns-clause-differences
returns-clause-differences g c =
    λ u v h k. subst (λ x. Encloses g.S.Scale.BITS x (u -ℚ v)) (sym (returns-clause-ends g c))
    (difference_encloses g.S.Scale.BITS c.args.self c.args.other u v h k)
