-- The tests are those of their word.
use Rattle.std.proofs.Common.{ℕ, List, subst}
use Rattle.rational_polygon.specs.Point.{Point}
use Rattle.rational_polygon.specs.Square.{IsInBox}
use Rattle.gradient_bounds.specs.Clear.{slack}
use Rattle.gradient_bounds.specs.Corridor.{HasCorridor}
use Rattle.gradient_bounds.specs.CornerClear.{IsCornerClear}
use Rattle.covering_claims.proofs.word_tests.WordTests.is_corner_clear.Goals as goal

pub returns-then-place-ge-LEAST_CORNER_LEVEL-clause-clear : goal.returns-then-place-ge-LEAST_CORNER_LEVEL-clause-clear
returns-then-place-ge-LEAST_CORNER_LEVEL-clause-clear g c passed =
    subst (λ (w : List ℕ). IsCornerClear w c.args.place (slack c.args.low)) c.self.view_is (c.test_corners.ensures.clear passed)

pub returns-then-place-ge-LEAST_CORNER_LEVEL-clause-corridor : goal.returns-then-place-ge-LEAST_CORNER_LEVEL-clause-corridor
returns-then-place-ge-LEAST_CORNER_LEVEL-clause-corridor g c passed =
    subst (λ (w : List ℕ). (p : Point) → IsInBox c.args.place p → HasCorridor w p.x p.y) c.self.view_is (c.test_corners.ensures.corridor passed)
