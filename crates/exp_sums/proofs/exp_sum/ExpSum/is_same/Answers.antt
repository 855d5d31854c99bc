use Rattle.std.proofs.Common.{sym, ap, ◌∙◌}
use Rattle.std.proofs.lemmas.Slice.Eq.{slice_eq-Decides}
use Rattle.exp_sums.specs.FormalPoint.{terms, same_terms}
use Rattle.exp_sums.proofs.SameTerms.{term_decides}
use Rattle.exp_sums.proofs.exp_sum.ExpSum.is_same.Goals as goal

pub returns : goal.returns
returns c =
    let told = slice_eq-Decides term_decides c.terms.result.now c.terms-2.result.now c.eq.result c.eq.ensures in (
      λ h. same_terms c.args.self.now c.args.other.now (sym c.terms.ensures.all ∙ told.0 h ∙ c.terms-2.ensures.all),
      λ same. told.1 (c.terms.ensures.all ∙ ap terms same ∙ sym c.terms-2.ensures.all),
    )
