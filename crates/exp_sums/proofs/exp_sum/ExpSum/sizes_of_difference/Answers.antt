use Rattle.std.proofs.Common.{◌≡◌, ◌+◌, ◌≤◌, sym, ap, ap₂, subst, ◌∙◌, arith}
use Rattle.exp_sums.specs.FormalPoint.{FormalPoint, point_of, terms, ◌-ₚ◌}
use Rattle.exp_sums.specs.Limits.{weight, terms_weight, greatest_weight}
use Rattle.exp_sums.specs.Reach.{terms_reach}
use Rattle.exp_sums.specs.Bend.{terms_bend}
use Rattle.exp_sums.specs.Differences.{CanSubtract, difference_terms}
use Rattle.exp_sums.proofs.DifferenceTerms.{kept_lists, terms_difference}
use Rattle.exp_sums.proofs.exp_sum.ExpSum.sizes_of_difference.Goals as goal
use Rattle.exp_sums.proofs.exp_sum.ExpSum.sizes_of_difference.Goals.{After-sizes_of_difference}

pub sizes_of_difference-requires : goal.sizes_of_difference-requires
sizes_of_difference-requires c =
    let light : weight (point_of c.self.inside.terms.items) + weight (point_of c.other.inside.terms.items) ≤ greatest_weight =
    omega (arith, c.requires, ap weight c.self.view_is, ap weight c.other.view_is)
    in
    let lists = kept_lists c.self.inside.terms.items c.other.inside.terms.items c.self.invariant c.other.invariant light in
    subst (λ ts. CanSubtract ts c.deref-2.result.now) (sym c.deref.ensures) (subst (CanSubtract c.self.inside.terms.items) (sym c.deref-2.ensures) lists)

-- the terms of the difference
terms_are : (c : After-sizes_of_difference) → difference_terms c.deref.result.now c.deref-2.result.now ≡ terms (c.args.self.now -ₚ c.args.other.now)
terms_are c =
    ap₂ difference_terms c.deref.ensures c.deref-2.ensures
    ∙ sym (terms_difference c.self.inside.terms.items c.other.inside.terms.items c.self.invariant.canonical)
    ∙ ap terms (ap₂ ◌-ₚ◌ c.self.view_is c.other.view_is)

pub returns-clause-weight : goal.returns-clause-weight
returns-clause-weight c = c.sizes_of_difference.ensures.weight ∙ ap terms_weight (terms_are c)

pub returns-clause-reach : goal.returns-clause-reach
returns-clause-reach c = c.sizes_of_difference.ensures.reach ∙ ap terms_reach (terms_are c)

pub returns-clause-bend : goal.returns-clause-bend
returns-clause-bend c = c.sizes_of_difference.ensures.bend ∙ ap terms_bend (terms_are c)
