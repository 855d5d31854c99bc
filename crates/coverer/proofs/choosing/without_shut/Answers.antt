use Rattle.std.proofs.Common.{◌∙◌, ℕ, List, sym, subst}
use Rattle.coverer.specs.Words.{AreShutOut}
use Rattle.coverer.proofs.choosing.without_shut.Goals as goal

pub drop_if_shut-left-requires-clause-shut : goal.drop_if_shut-left-requires-clause-shut
drop_if_shut-left-requires-clause-shut c =
    subst (λ (ts : List (List ℕ)). AreShutOut ts c.loop-i.left c.args.place) (sym c.loop-i.invariant.0) c.loop-i.invariant.1

pub loop-i-preserved : goal.loop-i-preserved
loop-i-preserved c = (
  c.drop_if_shut-left.ensures.kept ∙ c.loop-i.invariant.0,
  subst (λ (ts : List (List ℕ)). AreShutOut ts c.drop_if_shut-left.result c.args.place) c.loop-i.invariant.0 c.drop_if_shut-left.ensures.shut,
  λ i least most among. c.loop-i.invariant.2 i least most (c.drop_if_shut-left.ensures.fewer i least most among),
)

pub returns-2-clause-shut : goal.returns-2-clause-shut
returns-2-clause-shut c =
    subst (λ (ts : List (List ℕ)). AreShutOut ts c.drop_if_shut-left.result c.args.place) c.loop-i.invariant.0 c.drop_if_shut-left.ensures.shut
