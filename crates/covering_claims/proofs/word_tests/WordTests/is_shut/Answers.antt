-- The tests are those of their word.
use Rattle.std.proofs.Common.{ℕ, List, subst}
use Rattle.gradient_bounds.specs.Clear.{slack, IsShut}
use Rattle.covering_claims.proofs.word_tests.WordTests.is_shut.Goals as goal

pub returns-clause-shut : goal.returns-clause-shut
returns-clause-shut g c passed =
    subst (λ (w : List ℕ). IsShut w c.args.place (slack g.S.Scale.LOW_BITS)) c.self.view_is (c.shut_box.ensures.shut passed)
