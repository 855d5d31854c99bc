use Rattle.std.proofs.Common.{rules, ap, sym, ◌∙◌, pos}
use Rattle.std.specs.Int.{w64}
use mir.Val.{SFits}
use Rattle.std.proofs.lemmas.Int.{to_z-of_z}
use Rattle.exp_sums.specs.Limits.{terms_weight, weight}
use Rattle.exp_sums.proofs.Kept.{weight-canonical}
use Rattle.exp_sums.proofs.Listed.{light_kept}
use Rattle.exp_sums.proofs.exp_sum.ExpSum.weight.Goals as goal

pub weight_of-requires : goal.weight_of-requires
weight_of-requires c = rw c.deref.ensures (light_kept c.self.inside.terms.items c.self.invariant)

pub returns : goal.returns
returns c =
    let fits : SFits w64 c.weight_of.result = search rules in
    to_z-of_z w64 c.weight_of.result fits
    ∙ c.weight_of.ensures
    ∙ ap pos (ap terms_weight c.deref.ensures ∙ sym (weight-canonical c.self.inside.terms.items c.self.invariant.canonical) ∙ ap weight c.self.view_is)
