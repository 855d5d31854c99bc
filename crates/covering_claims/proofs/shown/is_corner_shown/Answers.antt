-- The test at the place of a listed word is that of the word.
use Rattle.std.proofs.Common.{refl, sym, ◌∙◌, ◌-◌, subst, ℕ, List}
use Rattle.gradient_bounds.specs.Clear.{slack}
use Rattle.gradient_bounds.specs.CornerClear.{IsCornerClear}
use Rattle.covering_claims.proofs.Listed.{listed_test}
use Rattle.covering_claims.proofs.shown.is_corner_shown.Goals as goal

pub returns-clause-clear : goal.returns-clause-clear
returns-clause-clear g c passed =
    subst (λ (w : List ℕ). IsCornerClear w c.args.place (slack c.args.low))
    (sym c.index-tests-i.is ∙ listed_test c.args.tests.now c.args.tests.now c.args.i c.index-tests-i.result refl c.requires.listed c.index-tests-i.is)
    (c.is_corner_clear.ensures.clear passed)

pub returns-clause-found : goal.returns-clause-found
returns-clause-found g c clear =
    c.is_corner_clear.ensures.found
    (subst (λ (w : List ℕ). IsCornerClear w c.args.place (slack (c.args.low - 4)))
    (sym (sym c.index-tests-i.is ∙ listed_test c.args.tests.now c.args.tests.now c.args.i c.index-tests-i.result refl c.requires.listed c.index-tests-i.is))
    clear)
