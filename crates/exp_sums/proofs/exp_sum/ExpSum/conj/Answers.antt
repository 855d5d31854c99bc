use Rattle.std.proofs.Common.{List, map, ap, ap₂, ◌∙◌, arith}
use Rattle.exp_sums.specs.declared.terms.Term.{Term}
use Rattle.exp_sums.specs.Terms.{put_terms}
use Rattle.exp_sums.specs.FormalPoint.{point_of, term_conj, conj}
use Rattle.exp_sums.proofs.Listed.{light_kept, near_kept, kept_conj, point_of_listed, point_of-conj}
use Rattle.exp_sums.proofs.exp_sum.ExpSum.conj.Goals as goal

pub put_all_conj-requires-clause-light : goal.put_all_conj-requires-clause-light
put_all_conj-requires-clause-light c =
    let light = light_kept c.self.inside.terms.items c.self.invariant in
    rw (c.reserve.ensures.items, c.new-terms.ensures.items, c.deref.ensures) (omega (arith, light))

pub put_all_conj-requires-clause-near : goal.put_all_conj-requires-clause-near
put_all_conj-requires-clause-near c = rw c.deref.ensures (near_kept c.self.inside.terms.items c.self.invariant)

pub invariant_of-result : goal.invariant_of-result
invariant_of-result c =
    rw (c.put_all_conj.ensures.items, c.reserve.ensures.items, c.new-terms.ensures.items, c.deref.ensures)
    (kept_conj c.self.inside.terms.items c.self.invariant)

pub returns : goal.returns
returns c =
    ap point_of
    (c.put_all_conj.ensures.items
    ∙ ap₂ (λ (ts us : List Term). put_terms (map term_conj ts) us) c.deref.ensures (c.reserve.ensures.items ∙ c.new-terms.ensures.items))
    ∙ point_of_listed (map term_conj c.self.inside.terms.items)
    ∙ point_of-conj c.self.inside.terms.items c.self.invariant.canonical
    ∙ ap conj c.self.view_is
