-- The tests are those of their word.
use Rattle.std.proofs.Common.{ℕ, List, subst}
use Rattle.rational_polygon.specs.Point.{Point}
use Rattle.rational_polygon.specs.Square.{IsInBox}
use Rattle.gradient_bounds.specs.Clear.{slack, IsClear}
use Rattle.gradient_bounds.specs.Corridor.{HasCorridor}
use Rattle.covering_claims.proofs.word_tests.WordTests.is_clear.Goals as goal

pub returns-clause-clear : goal.returns-clause-clear
returns-clause-clear g c passed =
    subst (λ (w : List ℕ). IsClear w c.args.place (slack g.S.Scale.LOW_BITS)) c.self.view_is (c.test_box.ensures.clear passed)

pub returns-clause-corridor : goal.returns-clause-corridor
returns-clause-corridor g c passed =
    subst (λ (w : List ℕ). (p : Point) → IsInBox c.args.place p → HasCorridor w p.x p.y) c.self.view_is (c.test_box.ensures.corridor passed)
