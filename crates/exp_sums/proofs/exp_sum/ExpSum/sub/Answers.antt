use Rattle.std.proofs.Common.{◌+◌, ◌≤◌, List, map, ap, ap₂, sym, subst, ◌∙◌, arith}
use Rattle.exp_sums.specs.declared.terms.Term.{Term}
use Rattle.exp_sums.specs.Terms.{put_terms}
use Rattle.exp_sums.specs.FormalPoint.{FormalPoint, point_of, term_neg, ◌+ₚ◌, ◌-ₚ◌}
use Rattle.exp_sums.specs.Limits.{IsWithinLimits, weight, greatest_weight}
use Rattle.exp_sums.proofs.Limits.{limits_difference}
use Rattle.exp_sums.proofs.Kept.{weight-canonical, kept-put_terms, point_of-put_terms, point_of-neg}
use Rattle.exp_sums.proofs.exp_sum.ExpSum.sub.Goals as goal

pub put_all_negated-requires-clause-light : goal.put_all_negated-requires-clause-light
put_all_negated-requires-clause-light c =
    let own = weight-canonical c.self.inside.terms.items c.self.invariant.canonical in
    let others = weight-canonical c.other.inside.terms.items c.other.invariant.canonical in
    let light : weight (point_of c.self.inside.terms.items) + weight (point_of c.other.inside.terms.items) ≤ greatest_weight =
    rw (c.self.view_is, c.other.view_is) c.requires in
    rw (c.reserve.ensures.items, c.deref.ensures) (omega (arith, own, others, light))

pub invariant_of-self-2 : goal.invariant_of-self-2
invariant_of-self-2 c =
    let own = c.self.inside.terms.items in
    let others = c.other.inside.terms.items in
    let light : weight (point_of own) + weight (point_of others) ≤ greatest_weight = rw (c.self.view_is, c.other.view_is) c.requires in
    let limits = limits_difference (point_of own) (point_of others) c.self.invariant.limits c.other.invariant.limits light in
    rw (c.put_all_negated.ensures.items, c.reserve.ensures.items, c.deref.ensures)
    (kept-put_terms (map term_neg others) own c.self.invariant.canonical (subst (λ p. IsWithinLimits (point_of own +ₚ p)) (sym (point_of-neg others)) limits))

pub returns-clause-ok : goal.returns-clause-ok
returns-clause-ok c =
    ap point_of (c.put_all_negated.ensures.items ∙ ap₂ (λ (ts us : List Term). put_terms (map term_neg ts) us) c.deref.ensures c.reserve.ensures.items)
    ∙ point_of-put_terms (map term_neg c.other.inside.terms.items) c.self.inside.terms.items
    ∙ ap (λ p. point_of c.self.inside.terms.items +ₚ p) (point_of-neg c.other.inside.terms.items)
    ∙ ap₂ (λ (p q : FormalPoint). p -ₚ q) c.self.view_is c.other.view_is
