-- The tests are those of the header's words, before and after each call.
use Rattle.std.proofs.Common.{◌∙◌, ℕ, List, sym, subst}
use Rattle.rational_polygon.specs.Region.{IsApartFromRegion}
use Rattle.rational_polygon.specs.Outline.{Outline}
use Rattle.gradient_bounds.specs.Slacks as slacks
use Rattle.covering_claims.specs.Claims.{NoneIsClear, IsFirstClear}
use Rattle.coverer.specs.Words.{AreShutOut}
use Rattle.coverer.proofs.Shut.{not_both}
use Rattle.coverer.proofs.choosing.choose.Goals as goal

pub first_clear-requires-clause-shut : goal.first_clear-requires-clause-shut
first_clear-requires-clause-shut c = subst (λ (ts : List (List ℕ)). AreShutOut ts c.args.words c.args.place) (sym c.requires.tests) c.requires.shut

pub returns-then-apart_region-clause-cause : goal.returns-then-apart_region-clause-cause
returns-then-apart_region-clause-cause c =
    subst (λ (r : List Outline). IsApartFromRegion c.args.place r) c.region.ensures.value (c.apart_region.ensures.0 c.if-apart_region.true)

pub returns-in-Some-clause-cause : goal.returns-in-Some-clause-cause
returns-in-Some-clause-cause c = (
  λ apart. not_both c.apart_region.result c.if-apart_region.false
      (c.apart_region.ensures.1 (subst (λ (r : List Outline). IsApartFromRegion c.args.place r) (sym c.region.ensures.value) apart)),
  subst (λ (ts : List (List ℕ)). IsFirstClear ts slacks.sure.gradient slacks.findable.gradient c.args.place c.in-Some.i) c.requires.tests
      c.in-Some.ensures.first,
)

pub without_shut-below-requires-clause-shut : goal.without_shut-below-requires-clause-shut
without_shut-below-requires-clause-shut c =
    subst (λ (ts : List (List ℕ)). AreShutOut ts c.args.words c.args.place) (sym (c.in_default.ensures.kept ∙ c.requires.tests)) c.requires.shut

pub choose_further-requires-clause-shut : goal.choose_further-requires-clause-shut
choose_further-requires-clause-shut c =
    subst (λ (ts : List (List ℕ)). AreShutOut ts c.without_shut-below.result c.args.place) (c.in_default.ensures.kept ∙ c.requires.tests)
    c.without_shut-below.ensures.shut

pub choose_further-requires-clause-in_question : goal.choose_further-requires-clause-in_question
choose_further-requires-clause-in_question c = record {
  not_apart = λ apart. not_both c.apart_region.result c.if-apart_region.false
      (c.apart_region.ensures.1 (subst (λ (r : List Outline). IsApartFromRegion c.args.place r) (sym c.region.ensures.value) apart));
  none_clear = subst (λ (ts : List (List ℕ)). NoneIsClear ts slacks.findable.gradient c.args.place) c.requires.tests c.in_default.ensures.first;
}

pub returns-clause-shut : goal.returns-clause-shut
returns-clause-shut c =
    subst (λ (ts : List (List ℕ)). AreShutOut ts c.without_shut-below.result c.args.place) (c.in_default.ensures.kept ∙ c.requires.tests)
    c.without_shut-below.ensures.shut
