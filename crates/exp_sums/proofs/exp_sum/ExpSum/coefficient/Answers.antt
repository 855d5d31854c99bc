use Rattle.std.proofs.Common.{rules, ap, sym, subst, ◌∙◌, pos, get_or}
use Rattle.std.specs.Int.{w64}
use mir.Val.{SFits}
use Rattle.std.proofs.lemmas.Int.{to_z-of_z}
use Rattle.exp_sums.specs.declared.terms.Term.{Term}
use Rattle.exp_sums.specs.FormalPoint.{coefficient}
use Rattle.exp_sums.specs.Place.{IsPlaceOf, IsGapFor}
use Rattle.exp_sums.proofs.SamePoint.{coefficient-point_of}
use Rattle.exp_sums.proofs.Place.{total_at_place, total_in_gap}
use Rattle.exp_sums.proofs.exp_sum.ExpSum.coefficient.Goals as goal

blank : Term
blank = record { dir = record { m = pos 0; n = pos 0 }; c = pos 0 }

pub returns-in-Ok : goal.returns-in-Ok
unfolding blank
returns-in-Ok c =
    let items = c.self.inside.terms.items in
    let place = subst (λ ts. IsPlaceOf ts c.args.dir c.in-Ok.at) c.deref.ensures c.in-Ok.ensures.found in
    let stored : SFits w64 (get_or c.deref-in-Ok.result.now c.in-Ok.at blank).c = search rules in
    to_z-of_z w64 (get_or c.deref-in-Ok.result.now c.in-Ok.at blank).c stored
    ∙ ap (λ ts. (get_or ts c.in-Ok.at blank).c) c.deref-in-Ok.ensures
    ∙ sym (total_at_place items c.args.dir c.in-Ok.at blank c.self.invariant.canonical place)
    ∙ sym (coefficient-point_of items c.args.dir)
    ∙ ap (λ p. coefficient p c.args.dir) c.self.view_is

pub returns-in-Err : goal.returns-in-Err
returns-in-Err c =
    let items = c.self.inside.terms.items in
    let gap = subst (λ ts. IsGapFor ts c.args.dir c.in-Err.field-0) c.deref.ensures c.in-Err.ensures.absent in
    sym (total_in_gap items c.args.dir c.in-Err.field-0 gap) ∙ sym (coefficient-point_of items c.args.dir) ∙ ap (λ p. coefficient p c.args.dir) c.self.view_is
