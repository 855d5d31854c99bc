use Rattle.std.proofs.Common.{List, ap, ap₂, ◌∙◌, arith}
use Rattle.std.specs.List.{flat_map}
use Rattle.exp_sums.specs.declared.terms.Term.{Term}
use Rattle.exp_sums.specs.Terms.{put_terms}
use Rattle.exp_sums.specs.FormalPoint.{point_of}
use Rattle.exp_sums.specs.SineForm.{sine_terms, sine_form}
use Rattle.exp_sums.proofs.Listed.{light_kept, near_kept, kept_sines, point_of_listed, point_of-sine_terms}
use Rattle.exp_sums.proofs.exp_sum.ExpSum.sine_form.Goals as goal

pub put_all_sines-requires-clause-light : goal.put_all_sines-requires-clause-light
put_all_sines-requires-clause-light c =
    let light = light_kept c.self.inside.terms.items c.self.invariant in
    rw (c.reserve.ensures.items, c.new-terms.ensures.items, c.deref.ensures) (omega (arith, light))

pub put_all_sines-requires-clause-near : goal.put_all_sines-requires-clause-near
put_all_sines-requires-clause-near c = rw c.deref.ensures (near_kept c.self.inside.terms.items c.self.invariant)

pub invariant_of-result : goal.invariant_of-result
invariant_of-result c =
    rw (c.put_all_sines.ensures.items, c.reserve.ensures.items, c.new-terms.ensures.items, c.deref.ensures)
    (kept_sines c.self.inside.terms.items c.self.invariant)

pub returns : goal.returns
returns c =
    ap point_of
    (c.put_all_sines.ensures.items
    ∙ ap₂ (λ (ts us : List Term). put_terms (flat_map sine_terms ts) us) c.deref.ensures (c.reserve.ensures.items ∙ c.new-terms.ensures.items))
    ∙ point_of_listed (flat_map sine_terms c.self.inside.terms.items)
    ∙ point_of-sine_terms c.self.inside.terms.items c.self.invariant.canonical
    ∙ ap sine_form c.self.view_is
