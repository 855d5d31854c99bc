-- The tests are those of the header's words.
use Rattle.std.proofs.Common.{ℕ, List, sym, subst}
use Rattle.coverer.specs.Words.{AreShutOut}
use Rattle.coverer.proofs.choosing.choose_further.Goals as goal

pub first_at_corners-requires-clause-shut : goal.first_at_corners-requires-clause-shut
first_at_corners-requires-clause-shut c =
    subst (λ (ts : List (List ℕ)). AreShutOut ts c.args.words c.args.place) (sym c.requires.tests) c.requires.shut
