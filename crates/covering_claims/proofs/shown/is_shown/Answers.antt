-- The test at the place of a listed word is that of the word.
use Rattle.std.proofs.Common.{refl, sym, ◌∙◌, subst, ℕ, List}
use Rattle.gradient_bounds.specs.Clear.{slack, IsClear}
use Rattle.covering_claims.proofs.Listed.{listed_test}
use Rattle.covering_claims.proofs.shown.is_shown.Goals as goal

pub returns-clause-clear : goal.returns-clause-clear
returns-clause-clear g c passed =
    subst (λ (w : List ℕ). IsClear w c.args.place (slack g.S.Scale.LOW_BITS))
    (sym c.index-tests-i.is ∙ listed_test c.args.tests.now c.args.tests.now c.args.i c.index-tests-i.result refl c.requires c.index-tests-i.is)
    (c.is_clear.ensures.clear passed)

pub returns-clause-found : goal.returns-clause-found
returns-clause-found g c clear =
    c.is_clear.ensures.found
    (subst (λ (w : List ℕ). IsClear w c.args.place (slack g.S.Scale.HIGH_BITS))
    (sym (sym c.index-tests-i.is ∙ listed_test c.args.tests.now c.args.tests.now c.args.i c.index-tests-i.result refl c.requires c.index-tests-i.is))
    clear)
