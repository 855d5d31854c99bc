use Rattle.std.proofs.Common.{rules, ap, sym, ◌∙◌, pos}
use Rattle.std.specs.Int.{w64}
use mir.Val.{SFits}
use Rattle.std.proofs.lemmas.Int.{to_z-of_z}
use Rattle.exp_sums.specs.Reach.{terms_reach, reach}
use Rattle.exp_sums.proofs.Kept.{terms-canonical}
use Rattle.exp_sums.proofs.Listed.{light_kept, near_kept}
use Rattle.exp_sums.proofs.exp_sum.ExpSum.reach.Goals as goal

pub reach_of-requires-clause-light : goal.reach_of-requires-clause-light
reach_of-requires-clause-light c = rw c.deref.ensures (light_kept c.self.inside.terms.items c.self.invariant)

pub reach_of-requires-clause-near : goal.reach_of-requires-clause-near
reach_of-requires-clause-near c = rw c.deref.ensures (near_kept c.self.inside.terms.items c.self.invariant)

pub returns : goal.returns
returns c =
    let fits : SFits w64 c.reach_of.result = search rules in
    to_z-of_z w64 c.reach_of.result fits
    ∙ c.reach_of.ensures
    ∙ ap pos (ap terms_reach (c.deref.ensures ∙ sym (terms-canonical c.self.inside.terms.items c.self.invariant.canonical)) ∙ ap reach c.self.view_is)
