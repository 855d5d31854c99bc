use Rattle.std.proofs.Common.{◌+◌, ◌≤◌, ap, ap₂, ◌∙◌, arith}
use Rattle.exp_sums.specs.Terms.{put_terms}
use Rattle.exp_sums.specs.FormalPoint.{point_of, ◌+ₚ◌}
use Rattle.exp_sums.specs.Limits.{weight, greatest_weight}
use Rattle.exp_sums.proofs.Limits.{limits-+ₚ}
use Rattle.exp_sums.proofs.Kept.{weight-canonical, kept-put_terms, point_of-put_terms}
use Rattle.exp_sums.proofs.exp_sum.ExpSum.add.Goals as goal

pub put_all-requires-clause-light : goal.put_all-requires-clause-light
put_all-requires-clause-light c =
    let own = weight-canonical c.self.inside.terms.items c.self.invariant.canonical in
    let others = weight-canonical c.other.inside.terms.items c.other.invariant.canonical in
    let light : weight (point_of c.self.inside.terms.items) + weight (point_of c.other.inside.terms.items) ≤ greatest_weight =
    rw (c.self.view_is, c.other.view_is) c.requires in
    rw (c.reserve.ensures.items, c.deref.ensures) (omega (arith, own, others, light))

pub invariant_of-self-2 : goal.invariant_of-self-2
invariant_of-self-2 c =
    let light : weight (point_of c.self.inside.terms.items) + weight (point_of c.other.inside.terms.items) ≤ greatest_weight =
    rw (c.self.view_is, c.other.view_is) c.requires in
    rw (c.put_all.ensures.items, c.reserve.ensures.items, c.deref.ensures)
    (kept-put_terms c.other.inside.terms.items c.self.inside.terms.items c.self.invariant.canonical
    (limits-+ₚ (point_of c.self.inside.terms.items) (point_of c.other.inside.terms.items) c.self.invariant.limits c.other.invariant.limits light))

pub returns-clause-ok : goal.returns-clause-ok
returns-clause-ok c =
    ap point_of (c.put_all.ensures.items ∙ ap₂ put_terms c.deref.ensures c.reserve.ensures.items)
    ∙ point_of-put_terms c.other.inside.terms.items c.self.inside.terms.items
    ∙ ap₂ ◌+ₚ◌ c.self.view_is c.other.view_is
